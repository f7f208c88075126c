-- Going through the leaves of a set, lowest first. Assumes nothing.
use Rattle.std.specs.Prelude.{◌≡◌, ℕ, ◌<◌, true, false, ◌&&◌, not, ◌==◌, Option, MatchOption}
use Rattle.positions.specs.declared.leaf_set.Leaves.{Leaves}
use Rattle.positions.specs.Positions.{member}

-- p is the lowest leaf of the set, and rest has the others
pub record Lowest (set p rest : ℕ) : Type 0 where
  pub inside : member set p ≡ true
  pub none_below : (q : ℕ) → q < p → member set q ≡ false
  pub others : (q : ℕ) → member rest q ≡ (member set q && not (q == p))

-- the lowest leaf was taken out of the set, or there was none
abbrev pub TakesLowest : Leaves → Option ℕ → Leaves → Type 0
TakesLowest before r after = MatchOption r ((before.0 ≡ 0) × (after.0 ≡ 0)) (λ p. (p < 32) × Lowest before.0 p after.0)
