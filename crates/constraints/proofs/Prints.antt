-- What is appended to the output, and which line is served how.
use Rattle.std.proofs.Common.{◌≡◌, ℕ, List, [], ◌++◌, Result, Bor, sym, subst}
use Rattle.policies.specs.Named.{named_above}
use Rattle.policies.specs.declared.named.NamedPolicy.{NamedPolicy}
use Rattle.sheet.specs.Changes.{Rules}
use Rattle.session.specs.declared.line.Line.{Line}
use Rattle.session.specs.declared.line.Line.TheVariants.{Policy, Rule, Name, Other}
use Rattle.session.specs.declared.line.State.{State}
use Rattle.session.specs.declared.line.State.TheVariants.{Awaiting, Serving}
use Rattle.session.specs.Kinds.{Is, Names, rule_line, name_line}
use Rattle.session.specs.Served.{Appends, asked}
use Rattle.session.proofs.Prints.{policy_or}
use Rattle.constraints.specs.NameLines.{SaysAnswer}
use Rattle.constraints.specs.Printed.{rule_said}
use Rattle.constraints.specs.Served.{TextAdded, Answers, policy_comes, policy_awaited, rule_comes, name_comes, not_served}

-- what a name prints
pub name_prints : (q : NamedPolicy) (rules : Rules) (bench : ℕ) (name old new : List ℕ) → Appends (SaysAnswer (named_above q) rules bench name) old new → Appends (Answers bench Serving q rules (name_line name) Serving q rules) old new
name_prints q rules bench name old new a = record {
  printed = a.printed;
  allowed = subst (λ (x : List ℕ). Answers bench Serving q rules (name_line name) Serving q rules x) (sym a.allowed.said) (name_comes a.allowed.answered);
  appended = a.appended;
}

-- the pairs of a state and a line that are answered by `?`
abbrev pub Asks : State → Line → Type 0
Asks Awaiting (Policy p) = ⊥
Asks Awaiting (Rule text) = Unit {0}
Asks Awaiting (Name name) = Unit {0}
Asks Awaiting Other = Unit {0}
Asks Serving (Policy p) = Unit {0}
Asks Serving (Rule text) = ⊥
Asks Serving (Name name) = ⊥
Asks Serving Other = Unit {0}

module _ (bench : ℕ) (q : NamedPolicy) (rules : Rules) where
  asks_answers : (s : State) (k : Line) (l : List ℕ) → Is k l → Asks s k → Answers bench s q rules l s q rules asked
  asks_answers Awaiting (Policy p) l i h = absurd h
  asks_answers Awaiting (Rule text) l i h = policy_awaited (policy_or 114 i)
  asks_answers Awaiting (Name name) l i h = policy_awaited (policy_or 110 i)
  asks_answers Awaiting Other l i h = policy_awaited i.0
  asks_answers Serving (Policy p) l i h = not_served (λ x e. policy_or 114 e p i) (λ x e. policy_or 110 e p i)
  asks_answers Serving (Rule text) l i h = absurd h
  asks_answers Serving (Name name) l i h = absurd h
  asks_answers Serving Other l i h = not_served i.1 i.2

  pub asks : (s : State) (k : Line) (l old new : List ℕ) → Is k l → Asks s k → new ≡ old ++ asked → Appends (Answers bench s q rules l s q rules) old new
  asks s k l old new i h e = record { printed = asked; allowed = asks_answers s k l i h; appended = e }

pub awaiting_rule : {s : State} {k : Line} (x : Bor (List ℕ)) → s ≡ Awaiting → k ≡ Rule x → Asks s k
awaiting_rule x e f = rw (e, f) tt

pub awaiting_name : {s : State} {k : Line} (x : Bor (List ℕ)) → s ≡ Awaiting → k ≡ Name x → Asks s k
awaiting_name x e f = rw (e, f) tt

pub awaiting_other : {s : State} {k : Line} → s ≡ Awaiting → k ≡ Other → Asks s k
awaiting_other e f = rw (e, f) tt

pub serving_policy : {s : State} {k : Line} (p : NamedPolicy) → s ≡ Serving → k ≡ Policy p → Asks s k
serving_policy p e f = rw (e, f) tt

pub serving_other : {s : State} {k : Line} → s ≡ Serving → k ≡ Other → Asks s k
serving_other e f = rw (e, f) tt

-- the policy comes, and a sheet is opened for it
pub comes : {bench : ℕ} {s : State} {p q q' : NamedPolicy} {rules rules' : Rules} {l : List ℕ} → s ≡ Awaiting → Names p l → rules' ≡ [] → q' ≡ p → Answers bench s q rules l Serving q' rules' []
comes {bench} {s} {p} {q} {q'} {rules} {rules'} {l} e h f g =
    subst (λ (u : State). Answers bench u q rules l Serving q' rules' []) (sym e)
    (subst (λ (u : NamedPolicy). Answers bench Awaiting q rules l Serving u rules' []) (sym g)
    (subst (λ (u : Rules). Answers bench Awaiting q rules l Serving p u []) (sym f) (policy_comes h)))

-- a served line, in the state and as the bytes that it was found in; the state stays
pub stays_served : (bench : ℕ) (s : State) (q : NamedPolicy) (rules : Rules) (l l' old new : List ℕ) → s ≡ Serving → l ≡ l'
    → Appends (Answers bench Serving q rules l' Serving q rules) old new → Appends (Answers bench s q rules l s q rules) old new
stays_served bench s q rules l l' old new e f h =
    subst (λ (u : State). Appends (Answers bench u q rules l u q rules) old new) (sym e)
    (subst (λ (x : List ℕ). Appends (Answers bench Serving q rules x Serving q rules) old new) (sym f) h)

-- what a rule's line prints
pub rule_prints : {bench : ℕ} {q q' : NamedPolicy} {rules rules' : Rules} {text line : List ℕ} {r : Result ℕ ℕ} → q' ≡ q → TextAdded rules text rules' r → line ≡ rule_said r
    → Answers bench Serving q rules (rule_line text) Serving q' rules' line
rule_prints {bench} {q} {q'} {rules} {rules'} {text} {line} {r} e h f =
    subst (λ (u : NamedPolicy). Answers bench Serving q rules (rule_line text) Serving u rules' line) (sym e)
    (subst (λ (x : List ℕ). Answers bench Serving q rules (rule_line text) Serving q rules' x) (sym f) (rule_comes h))

-- the text was added to the rules that the sheet holds, locked before and after
pub added_to : {rules a b rules' : Rules} {text : List ℕ} {r : Result ℕ ℕ} → a ≡ rules → rules' ≡ b → TextAdded a text b r → TextAdded rules text rules' r
added_to {rules} {a} {b} {rules'} {text} {r} e f h = subst (λ (x : Rules). TextAdded x text rules' r) e (subst (λ (x : Rules). TextAdded a text x r) (sym f) h)
