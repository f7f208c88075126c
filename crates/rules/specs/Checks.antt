-- The checks on rows, and the number of the first that is met. Assumes nothing.
use Rattle.std.specs.Prelude.{◌≡◌, ℕ, ◌+◌, ◌-◌, Bool, true, cond, ◌&&◌, ◌||◌, List, [], ◌∷◌, length, Some, None, Option, ◌==◌, nat_lt}
use Rattle.rules.specs.declared.row.Row.{Row}
use Rattle.rules.specs.Trees.{Tree, empty, leaf, choice, sequence, star}

-- how many parts a row of a kind has: two at a choice and a sequence, one at a star
abbrev pub parts : ℕ → ℕ
parts kind = cond (kind == 2 || kind == 3) 2 (cond (kind == 4) 1 0)

-- the open count after a row of a kind: each row takes one away and adds its parts
abbrev pub open_after : ℕ → ℕ → ℕ
open_after n kind = n - 1 + parts kind

-- a leaf is admitted, and elsewhere lo and hi are 0
abbrev pub row_fits : (ℕ → ℕ → Bool) → Row → Bool
row_fits admitted r = cond (r.kind == 1) (admitted r.lo r.hi) (r.lo == 0 && r.hi == 0)

-- the first check that a row meets, with the open count before it: 5, 3, 4
abbrev pub row_met : (ℕ → ℕ → Bool) → ℕ → Row → Option ℕ
row_met admitted n r = cond (n == 0) (Some 5) (cond (nat_lt 4 r.kind) (Some 3) (cond (row_fits admitted r) None (Some 4)))

-- the first of two checks, of which the second comes later
abbrev pub first_met : Option ℕ → Option ℕ → Option ℕ
first_met (Some k) later = Some k
first_met None later = later

-- the first check that rows meet, with the open count before them; after the last row it is 6
abbrev pub met : (ℕ → ℕ → Bool) → ℕ → List Row → Option ℕ
met admitted n [] = cond (n == 0) None (Some 6)
met admitted n (r ∷ rs) = first_met (row_met admitted n r) (met admitted (open_after n r.kind) rs)

-- the number of the first check that rows meet: 2 for no row or over 64, and then row by row
abbrev pub checks : (ℕ → ℕ → Bool) → List Row → Option ℕ
checks admitted rs = cond (length rs == 0 || nat_lt 64 (length rs)) (Some 2) (met admitted 1 rs)

-- every leaf of the tree is admitted
abbrev pub AllAdmitted : (ℕ → ℕ → Bool) → Tree → Type 0
AllAdmitted admitted empty = Unit {0}
AllAdmitted admitted (leaf lo hi) = admitted lo hi ≡ true
AllAdmitted admitted (choice p q) = AllAdmitted admitted p × AllAdmitted admitted q
AllAdmitted admitted (sequence p q) = AllAdmitted admitted p × AllAdmitted admitted q
AllAdmitted admitted (star p) = AllAdmitted admitted p
