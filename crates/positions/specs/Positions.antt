-- Position sets: leaves are numbered in node order, and a set of leaves is a number with a bit for each. Assumes nothing.
use Rattle.std.specs.Prelude.{◌≡◌, ℕ, suc, ◌+◌, ◌/◌, ◌%◌, ◌^◌, Bool, true, false, cond, ◌&&◌, ◌||◌, List, [], ◌∷◌, ◌++◌, ◌==◌, bit_or, slice_index, slice_index_or}
use Rattle.rules.specs.Trees.{Tree, empty, leaf, choice, sequence, star, leaves}
use Rattle.rules.specs.Languages.{Sight}

-- whether leaf p is in the set
abbrev pub member : ℕ → ℕ → Bool
member set p = (set / 2 ^ p) % 2 == 1

-- whether the tree takes the name of no symbol
abbrev pub nullable : Tree → Bool
nullable empty = true
nullable (leaf lo hi) = false
nullable (choice p q) = nullable p || nullable q
nullable (sequence p q) = nullable p && nullable q
nullable (star p) = true

-- the leaves that can come first, the tree's first leaf having number n
abbrev pub first_set : Tree → ℕ → ℕ
first_set empty n = 0
first_set (leaf lo hi) n = 2 ^ n
first_set (choice p q) n = bit_or (first_set p n) (first_set q (n + leaves p))
first_set (sequence p q) n = bit_or (first_set p n) (cond (nullable p) (first_set q (n + leaves p)) 0)
first_set (star p) n = first_set p n

-- the leaves that can come last, the tree's first leaf having number n
abbrev pub last_set : Tree → ℕ → ℕ
last_set empty n = 0
last_set (leaf lo hi) n = 2 ^ n
last_set (choice p q) n = bit_or (last_set p n) (last_set q (n + leaves p))
last_set (sequence p q) n = bit_or (cond (nullable q) (last_set p n) 0) (last_set q (n + leaves p))
last_set (star p) n = last_set p n

-- each leaf of the set, the list's first having number n, is followed by the set more too
abbrev pub followed : ℕ → ℕ → ℕ → List ℕ → List ℕ
followed set more n [] = []
followed set more n (f ∷ fs) = bit_or f (cond (member set n) more 0) ∷ followed set more (suc n) fs

-- for each leaf those that can come directly behind it, the tree's first leaf having number n
abbrev pub follow_sets : Tree → ℕ → List ℕ
follow_sets empty n = []
follow_sets (leaf lo hi) n = 0 ∷ []
follow_sets (choice p q) n = follow_sets p n ++ follow_sets q (n + leaves p)
follow_sets (sequence p q) n = followed (last_set p n) (first_set q (n + leaves p)) n (follow_sets p n) ++ follow_sets q (n + leaves p)
follow_sets (star p) n = followed (last_set p n) (first_set p n) n (follow_sets p n)

-- what the sets mean: the words of leaf numbers that the tree spells, each leaf standing for itself
pub data Spells : Tree → ℕ → List ℕ → Type 0 where
  spells_empty : {n : ℕ} → Spells empty n []
  spells_leaf : {lo hi n : ℕ} → Spells (leaf lo hi) n (n ∷ [])
  spells_first : {p q : Tree} {n : ℕ} {w : List ℕ} → Spells p n w → Spells (choice p q) n w
  spells_second : {p q : Tree} {n : ℕ} {w : List ℕ} → Spells q (n + leaves p) w → Spells (choice p q) n w
  spells_sequence : {p q : Tree} {n : ℕ} {u v : List ℕ} → Spells p n u → Spells q (n + leaves p) v → Spells (sequence p q) n (u ++ v)
  spells_none : {p : Tree} {n : ℕ} → Spells (star p) n []
  spells_more : {p : Tree} {n : ℕ} {u v : List ℕ} → Spells p n u → Spells (star p) n v → Spells (star p) n (u ++ v)

-- the two numbers of each leaf, in node order
abbrev pub leaf_of : Tree → List (ℕ × ℕ)
leaf_of empty = []
leaf_of (leaf lo hi) = (lo, hi) ∷ []
leaf_of (choice p q) = leaf_of p ++ leaf_of q
leaf_of (sequence p q) = leaf_of p ++ leaf_of q
leaf_of (star p) = leaf_of p

-- each leaf holds the symbol beside it, and there are as many leaves as symbols
abbrev pub Holding : List (ℕ × ℕ) → List ℕ → List Sight → Type 0
Holding ls [] [] = Unit {0}
Holding ls [] (s ∷ w) = ⊥
Holding ls (x ∷ xs) [] = ⊥
Holding ls (x ∷ xs) (s ∷ w) = (s (slice_index_or ls x (0, 0)).0 (slice_index_or ls x (0, 0)).1 ≡ true) × Holding ls xs w

-- from leaf x on, by the follow sets, to the last set
abbrev pub GoesOn : Tree → ℕ → List ℕ → Type 0
GoesOn t x [] = member (last_set t 0) x ≡ true
GoesOn t x (y ∷ xs) = (member (slice_index (follow_sets t 0) x) y ≡ true) × GoesOn t y xs

-- a run of the position sets over a name: leaves that hold its symbols in turn
pub data Runs (t : Tree) : List Sight → Type 0 where
  runs_none : nullable t ≡ true → Runs t []
  runs_some : (x : ℕ) (xs : List ℕ) {w : List Sight} → member (first_set t 0) x ≡ true → GoesOn t x xs → Holding (leaf_of t) (x ∷ xs) w → Runs t w
