-- The lines decide what is printed.
use Rattle.std.proofs.Common.{◌≡◌, ℕ, ◌<◌, ◌≤◌, List, ◌++◌, length, Ok, Err, Result, sym, refl, ap, ◌∙◌, subst, ap₂, arith}
use native.Mathlib.Decide.{dec_lt}
use Rattle.rules.specs.declared.row.Row.{Row}
use Rattle.rules.specs.Alphabets.{bytes_admitted}
use Rattle.rules.specs.Languages.{Sight}
use Rattle.rules.specs.Readings.{Reading}
use Rattle.rules.specs.Trees.{Tree, rows}
use Rattle.rules.proofs.OneTree.{one_tree}
use Rattle.text.proofs.Derives.{one_tree as one-text}
use Rattle.text.proofs.Outcomes.{one_number, read_not_denied}
use Rattle.policies.specs.Orders.{Best}
use Rattle.policies.specs.Named.{named_above}
use Rattle.policies.specs.declared.named.NamedPolicy.{NamedPolicy}
use Rattle.policies.specs.declared.named.NamedPolicy.TheVariants.{Posix, FirstLongest}
use Rattle.policies.proofs.PosixOrder.{posix_prefers}
use Rattle.policies.proofs.FirstOrder.{first_prefers}
use Rattle.sheet.specs.Changes.{Rules, add_answer, added}
use Rattle.sheet.specs.Questions.{at, BestBy, Lowest, needed}
use Rattle.session.specs.declared.line.State.{State}
use Rattle.session.specs.Kinds.{Names}
use Rattle.constraints.specs.Printed.{rule_said, name_said}
use Rattle.constraints.specs.Served.{folded_name, TextAdded, text_denied, text_read, NameAnswered, name_too_long, name_not_read, bench_too_short, name_read, Answers, policy_comes, policy_awaited, rule_comes, name_comes, not_served, Session, session_ends, session_goes}
use Rattle.constraints.specs.Theorems.{OneSession}
use Rattle.session.proofs.Shapes.{posix_is, first_is}

one_added : {rules a b : Rules} {text : List ℕ} {r s : Result ℕ ℕ} → TextAdded rules text a r → TextAdded rules text b s → (a ≡ b) × (r ≡ s)
one_added (text_denied k) (text_denied j) = (refl, ap Err (one_number k j))
one_added (text_denied k) (text_read s t d f) = absurd (read_not_denied s t d f k)
one_added (text_read s t d f) (text_denied k) = absurd (read_not_denied s t d f k)
one_added {rules} (text_read s t d f) (text_read r u e g) =
    let same : t ≡ u = one-text d e in
    (ap (λ (x : Tree). added bytes_admitted rules (rows x)) same, ap (λ (x : Tree). add_answer bytes_admitted rules (rows x)) same)

-- a name has one best reading under either policy
one_best : (q : NamedPolicy) (t : Tree) (w : List Sight) (x y : Reading) → Best (named_above q) t w x → Best (named_above q) t w y → x ≡ y
one_best Posix t w x y a b = posix_prefers.unique t w 0 (length w) x y ((posix_prefers.best t w x).1 a) ((posix_prefers.best t w y).1 b)
one_best FirstLongest t w x y a b = first_prefers.unique t w 0 (length w) x y ((first_prefers.best t w x).1 a) ((first_prefers.best t w y).1 b)

one_reading : (q : NamedPolicy) (rs : List Row) (w : List Sight) (x y : Reading) → BestBy (named_above q) rs w x → BestBy (named_above q) rs w y → x ≡ y
one_reading q rs w x y a b = one_best q a.0 w x y a.2 (subst (λ (t : Tree). Best (named_above q) t w y) (one_tree b.0 a.0 (sym b.1 ∙ a.1)) b.2)

one_lowest : {rules : Rules} {w : List Sight} {p p' : ℕ} → Lowest rules w p → Lowest rules w p' → p ≡ p'
one_lowest {p = p} {p' = p'} a b = go (dec_lt p p') (dec_lt p' p)
  where
    go : Dec (p < p') → Dec (p' < p) → p ≡ p'
    go (yes h) d = absurd (b.none_before p h a.reads)
    go (no h) (yes k) = absurd (a.none_before p' k b.reads)
    go (no h) (no k) = omega arith

-- the bench is too short, and long enough, for the one lowest place
not_both : (rules : Rules) (bench p p' : ℕ) (name : List ℕ) → Lowest rules (folded_name name) p → Lowest rules (folded_name name) p'
    → bench < needed (length (at rules p)) (length name) → needed (length (at rules p')) (length name) ≤ bench → ⊥
not_both rules bench p p' name a b short enough =
    let e : needed (length (at rules p)) (length name) ≡ needed (length (at rules p')) (length name) = ap (λ (k : ℕ). needed (length (at rules k)) (length name)) (one_lowest a b) in
    omega arith

one_name : (q : NamedPolicy) (rules : Rules) (bench : ℕ) (name : List ℕ) {r s : Result (ℕ × Reading) ℕ} → NameAnswered (named_above q) rules bench name r → NameAnswered (named_above q) rules bench name s → r ≡ s
one_name q rules bench name (name_too_long a) (name_too_long b) = refl
one_name q rules bench name (name_too_long a) (name_not_read h k) = absurd (omega arith)
one_name q rules bench name (name_too_long a) (bench_too_short h l k) = absurd (omega arith)
one_name q rules bench name (name_too_long a) (name_read h l k b) = absurd (omega arith)
one_name q rules bench name (name_not_read h k) (name_too_long a) = absurd (omega arith)
one_name q rules bench name (name_not_read h k) (name_not_read i j) = refl
one_name q rules bench name (name_not_read h k) (bench_too_short i l j) = absurd (k _ l.held l.reads)
one_name q rules bench name (name_not_read h k) (name_read i l j b) = absurd (k _ l.held l.reads)
one_name q rules bench name (bench_too_short i l j) (name_too_long a) = absurd (omega arith)
one_name q rules bench name (bench_too_short i l j) (name_not_read h k) = absurd (k _ l.held l.reads)
one_name q rules bench name (bench_too_short i l j) (bench_too_short h m k) = refl
one_name q rules bench name (bench_too_short i l j) (name_read h m k b) = absurd (not_both rules bench _ _ name l m j k)
one_name q rules bench name (name_read i l j b) (name_too_long a) = absurd (omega arith)
one_name q rules bench name (name_read i l j b) (name_not_read h k) = absurd (k _ l.held l.reads)
one_name q rules bench name (name_read i l j b) (bench_too_short h m k) = absurd (not_both rules bench _ _ name m l k j)
one_name q rules bench name (name_read {place = p} {x = x} i l j b) (name_read {place = p'} {x = y} h m k c) =
    let e : p ≡ p' = one_lowest l m in
    let f : x ≡ y = one_reading q (at rules p') (folded_name name) x y (subst (λ (n : ℕ). BestBy (named_above q) (at rules n) (folded_name name) x) e b) c in
    ap₂ {C = Result (ℕ × Reading) ℕ} (λ (n : ℕ) (z : Reading). Ok (n, z)) e f

-- a line names one policy at most, and is of one kind
one_policy : (l : List ℕ) (p p' : NamedPolicy) → Names p l → Names p' l → p ≡ p'
one_policy l Posix Posix a b = refl
one_policy l Posix FirstLongest a b = absurd (omega (arith, posix_is a, first_is b))
one_policy l FirstLongest Posix a b = absurd (omega (arith, posix_is b, first_is a))
one_policy l FirstLongest FirstLongest a b = refl

-- where a session stands, and what it has printed
record Same (s s' : State) (q q' : NamedPolicy) (rules rules' : Rules) (p p' : List ℕ) : Type 0 where
  state : s ≡ s'
  policy : q ≡ q'
  held : rules ≡ rules'
  printed : p ≡ p'

one_answer : {bench : ℕ} {s t u : State} {q q' q'' : NamedPolicy} {rules a b : Rules} {l p p' : List ℕ} → Answers bench s q rules l t q' a p → Answers bench s q rules l u q'' b p' → Same t u q' q'' a b p p'
one_answer (policy_comes {p = m} {l = l} h) (policy_comes {p = n} k) = record { state = refl; policy = one_policy l m n h k; held = refl; printed = refl }
one_answer (policy_comes {p = m} h) (policy_awaited k) = absurd (k m h)
one_answer (policy_awaited h) (policy_comes {p = n} k) = absurd (h n k)
one_answer (policy_awaited h) (policy_awaited k) = record { state = refl; policy = refl; held = refl; printed = refl }
one_answer (rule_comes a) (rule_comes b) = let e = one_added a b in record { state = refl; policy = refl; held = e.0; printed = ap rule_said e.1 }
one_answer (rule_comes {text = x} a) (not_served k j) = absurd (k x refl)
one_answer {bench} (name_comes {q = q} {rules = rules} {name = x} a) (name_comes b) = record { state = refl; policy = refl; held = refl; printed = ap name_said (one_name q rules bench x a b) }
one_answer (name_comes {name = x} a) (not_served k j) = absurd (j x refl)
one_answer (not_served k j) (rule_comes {text = x} a) = absurd (k x refl)
one_answer (not_served k j) (name_comes {name = x} a) = absurd (j x refl)
one_answer (not_served k j) (not_served h i) = record { state = refl; policy = refl; held = refl; printed = refl }

same_from : {bench : ℕ} {s s' : State} {q q' : NamedPolicy} {rules rules' : Rules} {p p' more : List ℕ} {ls : List (List ℕ)} → Same s s' q q' rules rules' p p' → Session bench s' q' rules' ls more → Session bench s q rules ls more
same_from {bench} {s} {s'} {q} {q'} {rules} {rules'} {p} {p'} {more} {ls} e h =
    subst (λ (x : State). Session bench x q rules ls more) (sym e.state)
    (subst (λ (x : NamedPolicy). Session bench s' x rules ls more) (sym e.policy) (subst (λ (x : Rules). Session bench s' q' x ls more) (sym e.held) h))

decided : {bench : ℕ} {s : State} {q : NamedPolicy} {rules : Rules} {ls : List (List ℕ)} {p p' : List ℕ} → Session bench s q rules ls p → Session bench s q rules ls p' → p ≡ p'
decided session_ends session_ends = refl
decided (session_goes a g) (session_goes b h) =
    let e = one_answer a b in
    ap₂ (λ (x : List ℕ) (z : List ℕ). x ++ z) e.printed (decided g (same_from e h))

pub one_session : OneSession
one_session bench s q rules ls p p' a b = decided a b
