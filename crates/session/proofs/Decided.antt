-- The lines decide what is printed.
use Rattle.std.proofs.Common.{◌≡◌, ℕ, List, ◌++◌, sym, refl, ap, subst, ap₂}
use Rattle.text.proofs.Outcomes.{one_number, read_not_denied}
use Rattle.session.specs.declared.line.State.{State}
use Rattle.session.specs.Served.{denied, RulePrints, rule_read, rule_denied, Answers, policy_comes, policy_awaited, rule_comes, not_served, Session, session_ends, session_goes}
use Rattle.session.specs.Theorems.{OneSession}

one_rule_print : {text p q : List ℕ} → RulePrints text p → RulePrints text q → p ≡ q
one_rule_print (rule_read s t d f) (rule_read r u e g) = refl
one_rule_print (rule_read s t d f) (rule_denied k) = absurd (read_not_denied s t d f k)
one_rule_print (rule_denied k) (rule_read s t d f) = absurd (read_not_denied s t d f k)
one_rule_print (rule_denied k) (rule_denied j) = ap denied (one_number k j)

abbrev Same : State → State → List ℕ → List ℕ → Type 0
Same s t p q = (s ≡ t) × (p ≡ q)

one_answer : {s t u : State} {l p q : List ℕ} → Answers s l t p → Answers s l u q → Same t u p q
one_answer (policy_comes h) (policy_comes k) = (refl, refl)
one_answer (policy_comes h) (policy_awaited k) = absurd (k h)
one_answer (policy_awaited h) (policy_comes k) = absurd (h k)
one_answer (policy_awaited h) (policy_awaited k) = (refl, refl)
one_answer (rule_comes a) (rule_comes b) = (refl, one_rule_print a b)
one_answer (rule_comes {text} a) (not_served k) = absurd (k text refl)
one_answer (not_served k) (rule_comes {text} a) = absurd (k text refl)
one_answer (not_served k) (not_served h) = (refl, refl)

decided : {s : State} {ls : List (List ℕ)} {p q : List ℕ} → Session s ls p → Session s ls q → p ≡ q
decided session_ends session_ends = refl
decided (session_goes a g) (session_goes {t = u} {q = y} {ls = ls} b h) =
    let e = one_answer a b in
    ap₂ (λ (x : List ℕ) (z : List ℕ). x ++ z) e.1 (decided g (subst (λ (w : State). Session w ls y) (sym e.0) h))

pub one_session : OneSession
one_session s ls p q a b = decided a b
