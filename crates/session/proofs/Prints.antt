-- What is appended to the output, and which lines are of no kind that is served.
use Rattle.std.proofs.Common.{◌≡◌, ℕ, List, [], ◌∷◌, ◌++◌, inl, inr, Ok, Err, Result, Bor, sym, subst, append-nil, arith}
use Rattle.policies.specs.declared.named.NamedPolicy.{NamedPolicy}
use Rattle.policies.specs.declared.named.NamedPolicy.TheVariants.{Posix, FirstLongest}
use Rattle.session.specs.declared.line.Line.{Line}
use Rattle.session.specs.declared.line.Line.TheVariants.{Policy, Rule, Name, Other}
use Rattle.session.specs.declared.line.State.{State}
use Rattle.session.specs.declared.line.State.TheVariants.{Awaiting, Serving}
use Rattle.session.specs.Kinds.{Is, NamesPolicy, Names, NamesNone, rule_line}
use Rattle.session.specs.Served.{Appends, Prints, PrintsBy, asked, RulePrints, Answers, policy_comes, policy_awaited, rule_comes, not_served}
use Rattle.session.proofs.Shapes.{posix_is, first_is, two_from}

-- nothing is appended
pub silent : (P : List ℕ → Type 0) (out : List ℕ) → P [] → Appends P out out
silent P out h = record { printed = []; allowed = h; appended = sym (append-nil out) }

-- all is printed, or nothing for want of memory
pub all_printed : {E : Type 0} (r : Result (Unit {0}) E) (P : List ℕ → Type 0) (old more new : List ℕ) → P more → Prints r more old new → PrintsBy r (λ _. P) old new
all_printed (Ok x) P old more new h e = record { printed = more; allowed = h; appended = e }
all_printed (Err y) P old more new h e = e

pub passed_on : {P Q : List ℕ → Type 0} {old new : List ℕ} → ((p : List ℕ) → P p → Q p) → Appends P old new → Appends Q old new
passed_on f a = record { printed = a.printed; allowed = f a.printed a.allowed; appended = a.appended }

-- a policy's name begins neither as a rule's line nor as a name's
pub policy_or : {l x : List ℕ} (a : ℕ) → l ≡ a ∷ 32 ∷ x → NamesNone l
policy_or a e Posix p = omega (arith, posix_is p, two_from e)
policy_or a e FirstLongest p = omega (arith, first_is p, two_from e)

pub one_of_two : (p : NamedPolicy) {l : List ℕ} → Names p l → NamesPolicy l
one_of_two Posix e = inl e
one_of_two FirstLongest e = inr e

pub neither : {l : List ℕ} → NamesNone l → NamesPolicy l → ⊥
neither h (inl e) = h Posix e
neither h (inr e) = h FirstLongest e

-- the pairs of a state and a line that are answered by `?`
abbrev pub Asks : State → Line → Type 0
Asks Awaiting (Policy p) = ⊥
Asks Awaiting (Rule text) = Unit {0}
Asks Awaiting (Name name) = Unit {0}
Asks Awaiting Other = Unit {0}
Asks Serving (Policy p) = Unit {0}
Asks Serving (Rule text) = ⊥
Asks Serving (Name name) = Unit {0}
Asks Serving Other = Unit {0}

asks_answers : (s : State) (k : Line) (l : List ℕ) → Is k l → Asks s k → Answers s l s asked
asks_answers Awaiting (Policy p) l i h = absurd h
asks_answers Awaiting (Rule text) l i h = policy_awaited (neither (policy_or 114 i))
asks_answers Awaiting (Name name) l i h = policy_awaited (neither (policy_or 110 i))
asks_answers Awaiting Other l i h = policy_awaited (neither i.0)
asks_answers Serving (Policy p) l i h = not_served (λ x e. policy_or 114 e p i)
asks_answers Serving (Rule text) l i h = absurd h
asks_answers Serving (Name name) l i h = not_served (λ x e. omega (arith, two_from i, two_from e))
asks_answers Serving Other l i h = not_served i.1

pub asks : (s : State) (k : Line) (l old new : List ℕ) → Is k l → Asks s k → new ≡ old ++ asked → Appends (Answers s l s) old new
asks s k l old new i h e = record { printed = asked; allowed = asks_answers s k l i h; appended = e }

pub awaiting_rule : {s : State} {k : Line} (x : Bor (List ℕ)) → s ≡ Awaiting → k ≡ Rule x → Asks s k
awaiting_rule x e f = rw (e, f) tt

pub awaiting_name : {s : State} {k : Line} (x : Bor (List ℕ)) → s ≡ Awaiting → k ≡ Name x → Asks s k
awaiting_name x e f = rw (e, f) tt

pub awaiting_other : {s : State} {k : Line} → s ≡ Awaiting → k ≡ Other → Asks s k
awaiting_other e f = rw (e, f) tt

pub serving_policy : {s : State} {k : Line} (p : NamedPolicy) → s ≡ Serving → k ≡ Policy p → Asks s k
serving_policy p e f = rw (e, f) tt

pub serving_name : {s : State} {k : Line} (x : Bor (List ℕ)) → s ≡ Serving → k ≡ Name x → Asks s k
serving_name x e f = rw (e, f) tt

pub serving_other : {s : State} {k : Line} → s ≡ Serving → k ≡ Other → Asks s k
serving_other e f = rw (e, f) tt

pub comes : {s : State} {l : List ℕ} (p : NamedPolicy) → s ≡ Awaiting → Names p l → Answers s l Serving []
comes {l = l} p e h = subst (λ (u : State). Answers u l Serving []) (sym e) (policy_comes (one_of_two p h))

pub adds : {s : State} {l text p : List ℕ} → s ≡ Serving → l ≡ rule_line text → RulePrints text p → Answers s l s p
adds {s} {l} {text} {p} e f h = subst (λ (u : State). Answers u l u p) (sym e) (subst (λ (x : List ℕ). Answers Serving x Serving p) (sym f) (rule_comes h))
