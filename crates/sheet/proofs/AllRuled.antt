-- Every rule that a list of calls leaves is one: the rows of a tree, at most 64.
use Rattle.std.proofs.Common.{◌≡◌, ℕ, zero, suc, ◌+◌, ◌<◌, ◌≤◌, Bool, true, false, ◌||◌, eqb, ltb, leb, List, [], ◌∷◌, ◌++◌, length, take, drop, Some, None, Option, sym, refl, ap, ◌∙◌, ⊎_elim, arith}
use Rattle.std.proofs.lemmas.Bool.{cases_Bool, cond-true, cond-false, ltb-false}
use Rattle.rules.specs.declared.row.Row.{Row}
use Rattle.rules.specs.RuleRows.{Ruled}
use Rattle.rules.specs.Checks.{checks}
use Rattle.rules.proofs.RowFacts.{length_rows}
use Rattle.rules.proofs.Shapes.{the_tree_of}
use Rattle.sheet.specs.Changes.{Rules, changed, add_met, place_met}
use Rattle.sheet.specs.Questions.{at}
use Rattle.sheet.specs.Histories.{Call, add, lock, unlock, ask, held_then, held_from, held_after}
use Rattle.sheet.specs.Histories.{drop as drop-call}

abbrev All : Rules → Type 0
All [] = Unit {0}
All (rs ∷ rules) = Ruled rs × All rules

all_at : (rules : Rules) → All rules → (k : ℕ) → k < length rules → Ruled (at rules k)
all_at [] h k less = absurd (omega arith)
all_at (rs ∷ rules) h zero less = h.0
all_at (rs ∷ rules) h (suc k) less = all_at rules h.1 k (omega arith)

all_join : (a b : Rules) → All a → All b → All (a ++ b)
all_join [] b h k = k
all_join (rs ∷ a) b h k = (h.0, all_join a b h.1 k)

all_take : (n : ℕ) (a : Rules) → All a → All (take n a)
all_take zero a h = tt
all_take (suc n) [] h = tt
all_take (suc n) (rs ∷ a) h = (h.0, all_take n a h.1)

all_drop : (n : ℕ) (a : Rules) → All a → All (drop n a)
all_drop zero a h = h
all_drop (suc n) [] h = tt
all_drop (suc n) (rs ∷ a) h = all_drop n a h.1

some_none : (k : ℕ) → Some k ≡ None → ⊥
some_none k e = let z : ◌≡◌ {A = ℕ} 0 1 = cc in omega arith

-- rows that meet no check are a rule's
or_false : (a b : Bool) → (a || b) ≡ false → b ≡ false
or_false true b e = absurd (let z : ◌≡◌ {A = ℕ} 0 1 = cc in omega arith)
or_false false b e = e

checked_ruled : (admitted : ℕ → ℕ → Bool) (rs : List Row) → checks admitted rs ≡ None → Ruled rs
checked_ruled admitted rs e = ⊎_elim
    (λ y. absurd (some_none 2 (sym (cond-true _ _ _ y) ∙ e)))
    (λ n.
    let few : length rs ≤ 64 = ltb-false 64 (length rs) (or_false (eqb (length rs) 0) (ltb 64 (length rs)) n) in
    let t = the_tree_of admitted rs (sym (cond-false _ _ _ n) ∙ e) in
    record { tree = t.0; of = t.1; few = omega (arith, ap length t.1 ∙ length_rows t.0) })
    (cases_Bool (eqb (length rs) 0 || ltb 64 (length rs)))

added_ruled : (admitted : ℕ → ℕ → Bool) (rules : Rules) (rs : List Row) (m : Option ℕ) → add_met admitted rules rs ≡ m → All rules → All (changed m (rules ++ rs ∷ []) rules)
added_ruled admitted rules rs (Some n) e h = h
added_ruled admitted rules rs None e h = ⊎_elim
    (λ y. absurd (some_none 1 (sym (cond-true _ _ _ y) ∙ e)))
    (λ n. all_join rules (rs ∷ []) h (checked_ruled admitted rs (sym (cond-false _ _ _ n) ∙ e), tt))
    (cases_Bool (leb 16 (length rules)))

dropped_ruled : (rules : Rules) (place : ℕ) (m : Option ℕ) → All rules → All (changed m (take place rules ++ drop (place + 1) rules) rules)
dropped_ruled rules place (Some n) h = h
dropped_ruled rules place None h = all_join (take place rules) (drop (place + 1) rules) (all_take place rules h) (all_drop (place + 1) rules h)

then_ruled : {S : Type 0} (admitted : ℕ → ℕ → Bool) (rules : Rules) (c : Call S) → All rules → All (held_then admitted rules c)
then_ruled admitted rules (add rs) h = added_ruled admitted rules rs (add_met admitted rules rs) refl h
then_ruled admitted rules (drop-call place) h = dropped_ruled rules place (place_met rules place) h
then_ruled admitted rules lock h = h
then_ruled admitted rules unlock h = h
then_ruled admitted rules (ask q) h = h

from_ruled : {S : Type 0} (admitted : ℕ → ℕ → Bool) (rules : Rules) (cs : List (Call S)) → All rules → All (held_from admitted rules cs)
from_ruled admitted rules [] h = h
from_ruled admitted rules (c ∷ cs) h = from_ruled admitted (held_then admitted rules c) cs (then_ruled admitted rules c h)

pub held_ruled_at : {S : Type 0} (admitted : ℕ → ℕ → Bool) (cs : List (Call S)) (k : ℕ) → k < length (held_after admitted cs) → Ruled (at (held_after admitted cs) k)
held_ruled_at admitted cs k h = all_at (held_after admitted cs) (from_ruled admitted [] cs tt) k h
