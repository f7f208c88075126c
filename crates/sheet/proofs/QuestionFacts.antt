-- The checks of the questions, and the rule at a place.
use Rattle.std.proofs.Common.{◌≡◌, ℕ, ◌+◌, Bool, true, false, ◌↔◌, List, [], ◌∷◌, ◌++◌, length, take, drop, Some, None, Ok, Err, Option, Result, sym, refl, ap, ◌∙◌, subst, arith}
use borrow.Author.Tests.{clash}
use Rattle.std.proofs.lemmas.List.{length-map}
use Rattle.rules.specs.declared.row.Row.{Row}
use Rattle.rules.specs.declared.denial.Denial.{Denial}
use Rattle.rules.specs.Trees.{Tree, empty, leaf, choice, sequence, star, rows, Of, leaves}
use Rattle.rules.specs.RuleRows.{Ruled}
use Rattle.rules.specs.Checks.{first_met}
use Rattle.rules.specs.Denials.{number}
use Rattle.rules.specs.Languages.{Sight, In, seen}
use Rattle.rules.proofs.OneTree.{ruled}
use Rattle.rules.proofs.ReadingFacts.{readings_exactly}
use Rattle.positions.specs.declared.sets.Positions.{Positions}
use Rattle.positions.specs.Positions.{follow_sets}
use Rattle.positions.specs.SetsOf.{SetsOf}
use Rattle.sheet.specs.declared.held.Held.{Held}
use Rattle.sheet.specs.Changes.{Rules, unless, place_met}
use Rattle.sheet.specs.Sheets.{held_rows}
use Rattle.sheet.specs.Questions.{at, Read, name_met, Governed, GovernAnswer, leaf_rows, summary, room_met, sets_met, SetOut, SetsAnswer}

not_ok : {X : Type 0} (x : X) (n : ℕ) → ◌≡◌ {A = Result X ℕ} (Ok x) (Err n) → ⊥
not_ok {X} x n e = let z : ◌≡◌ {A = ℕ} 0 1 = cc in omega arith

err_same : {X : Type 0} (m n : ℕ) → ◌≡◌ {A = Result X ℕ} (Err m) (Err n) → m ≡ n
err_same m n e = cc

-- a check that denies has met its number, and one that passes has met none
pub denied_by : (m : Option ℕ) (d : Denial) → ◌≡◌ {A = Result (Unit {0}) ℕ} (Err (number d)) (unless m tt) → m ≡ Some (number d)
denied_by None d e = absurd (not_ok tt (number d) (sym e))
denied_by (Some n) d e = ap Some (sym (err_same (number d) n e))

pub passed : (m : Option ℕ) → ◌≡◌ {A = Result (Unit {0}) ℕ} (Ok tt) (unless m tt) → m ≡ None
passed None e = refl
passed (Some n) e = absurd (not_ok tt n e)

-- the first of two checks
pub first_of : (m k : Option ℕ) (n : ℕ) → m ≡ Some n → first_met m k ≡ Some n
first_of m k n e = ap (λ (o : Option ℕ). first_met o k) e

pub second_of : (m k o : Option ℕ) → m ≡ None → k ≡ o → first_met m k ≡ o
second_of m k o e f = ap (λ (x : Option ℕ). first_met x k) e ∙ f

pub held_ruled : (h : Held) → Ruled (held_rows h)
held_ruled h = ruled h.rule.rows h.rule.len h.rule.few h.rule.tree

-- the language test says whether the rule reads the name
pub test_yes : (rs : List Row) (w : List Sight) (b : Bool) → Ruled rs → ((t : Tree) → Of rs t → (b ≡ true) ↔ In t w) → b ≡ true → Read rs w
test_yes rs w b r f e = (r.tree, r.of, (readings_exactly r.tree w).0 ((f r.tree r.of).0 e))

pub test_no : (rs : List Row) (w : List Sight) (b : Bool) → ((t : Tree) → Of rs t → (b ≡ true) ↔ In t w) → b ≡ false → Read rs w → ⊥
test_no rs w b f e h = clash (sym e ∙ (f h.0 h.1).1 ((readings_exactly h.0 w).1 h.2))

-- as many leaves as rows of the kind
leaf_rows_joined : (a b : List Row) → leaf_rows (a ++ b) ≡ leaf_rows a + leaf_rows b
leaf_rows_joined [] b = omega arith
leaf_rows_joined (r ∷ a) b = let e = leaf_rows_joined a b in omega arith

pub leaf_rows_tree : (t : Tree) → leaf_rows (rows t) ≡ leaves t
leaf_rows_tree empty = refl
leaf_rows_tree (leaf lo hi) = refl
leaf_rows_tree (choice p q) = omega (arith, leaf_rows_joined (rows p) (rows q), leaf_rows_tree p, leaf_rows_tree q)
leaf_rows_tree (sequence p q) = omega (arith, leaf_rows_joined (rows p) (rows q), leaf_rows_tree p, leaf_rows_tree q)
leaf_rows_tree (star p) = omega (arith, leaf_rows_tree p)

-- the answer to a sets
pub sets_denied : (rules : Rules) (place n : ℕ) (masks : List ℕ) (d : Denial) → sets_met rules place (length masks) ≡ Some (number d) → SetsAnswer rules place masks masks (Err d)
sets_denied rules place n masks d e = subst (λ (o : Option ℕ). SetOut o (at rules place) masks masks (Err d)) (sym e) (refl, refl)

pub sets_room : (rules : Rules) (place : ℕ) (masks : ℕ) (rs : List Row) (p : Positions) → place_met rules place ≡ None → rs ≡ at rules place → Ruled rs → ((t : Tree) → Of rs t → SetsOf t p) → (o : Option ℕ) → room_met p.count masks ≡ o → sets_met rules place masks ≡ o
sets_room rules place masks rs p h e r f o g =
    let s = f r.tree r.of in
    let n : leaf_rows (at rules place) ≡ p.count = ap leaf_rows (sym e ∙ r.of) ∙ leaf_rows_tree r.tree ∙ sym s.count_is in
    second_of (place_met rules place) _ o h (ap (λ (k : ℕ). room_met k masks) n ∙ g)

pub sets_served : (rules : Rules) (place : ℕ) (masks copied : List ℕ) (rs : List Row) (p : Positions) → sets_met rules place (length masks) ≡ None → rs ≡ at rules place → Ruled rs → ((t : Tree) → Of rs t → SetsOf t p) → copied ≡ take p.count p.follow → SetsAnswer rules place masks (copied ++ drop p.count masks) (Ok (record { nullable = p.nullable; first = p.first; last = p.last; leaves = p.count }))
sets_served rules place masks copied rs p met e r f c =
    let t = r.tree in
    let s = f t r.of in
    let told : record { nullable = p.nullable; first = p.first; last = p.last; leaves = p.count } ≡ summary t = λ i. record { nullable = s.nullable_is i; first = s.first_is i; last = s.last_is i; leaves = s.count_is i } in
    let written : copied ++ drop p.count masks ≡ follow_sets t 0 ++ drop (leaves t) masks = ap (λ (l : List ℕ). l ++ drop p.count masks) (c ∙ s.follow_is) ∙ ap (λ (k : ℕ). follow_sets t 0 ++ drop k masks) s.count_is in
    subst (λ (o : Option ℕ). SetOut o (at rules place) masks (copied ++ drop p.count masks) (Ok (record { nullable = p.nullable; first = p.first; last = p.last; leaves = p.count }))) (sym met) (t, sym e ∙ r.of, ap Ok told, written)

-- the answer to a govern, from the check on the name
pub seen_long : {S : Type 0} (holds : ℕ → ℕ → S → Bool) (name : List S) → length (seen holds name) ≡ length name
seen_long holds name = length-map name _

pub govern_by : {S : Type 0} (holds : ℕ → ℕ → S → Bool) (name : List S) (rules : Rules) (r : Result ℕ Denial) (o : Option ℕ) → name_met (length name) ≡ o → Governed o rules (seen holds name) r → GovernAnswer rules (seen holds name) r
govern_by holds name rules r o e h =
    let f : name_met (length (seen holds name)) ≡ o = ap name_met (seen_long holds name) ∙ e in
    subst (λ (m : Option ℕ). Governed m rules (seen holds name) r) (sym f) h
