-- The theorems of this crate; each is the contract of a function. Assumes nothing.
use Rattle.std.specs.Prelude.{◌≡◌, ℕ, ◌^◌, ◌<◌, true, ◌↔◌, List, [], ◌∷◌, ◌++◌, length, slice_index}
use Rattle.rules.specs.Trees.{Tree, leaves}
use Rattle.rules.specs.Languages.{Sight, In}
use Rattle.positions.specs.Positions.{member, nullable, first_set, last_set, follow_sets, Spells, Runs}
use Rattle.positions.specs.Steps.{accepts}

-- what the position sets of a tree hold, by the words of leaf numbers that it spells
pub record SetsMean (t : Tree) : Type 0 where
  pub none : (nullable t ≡ true) ↔ Spells t 0 []
  pub first : (x : ℕ) → (member (first_set t 0) x ≡ true) ↔ ((w : List ℕ) × Spells t 0 (x ∷ w))
  pub last : (x : ℕ) → (member (last_set t 0) x ≡ true) ↔ ((w : List ℕ) × Spells t 0 (w ++ x ∷ []))
  pub follow : (x y : ℕ) → (member (slice_index (follow_sets t 0) x) y ≡ true) ↔ ((u v : List ℕ) × Spells t 0 (u ++ x ∷ y ∷ v))
  pub one_each : length (follow_sets t 0) ≡ leaves t
  pub first_fits : first_set t 0 < 2 ^ leaves t
  pub last_fits : last_set t 0 < 2 ^ leaves t
  pub follow_fits : (x : ℕ) → slice_index (follow_sets t 0) x < 2 ^ leaves t

-- the position sets are those that the words of leaf numbers say
abbrev pub SetsExactly : Type 0
SetsExactly = (t : Tree) → SetsMean t

-- a name has a run of the position sets exactly where it is in the language
abbrev pub RunsExactly : Type 0
RunsExactly = (t : Tree) (w : List Sight) → Runs t w ↔ In t w

-- the steps on masks accept a name exactly where it is in the language
abbrev pub StepsExactly : Type 0
StepsExactly = (t : Tree) (w : List Sight) → (accepts t w ≡ true) ↔ In t w
