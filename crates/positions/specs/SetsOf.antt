-- The position sets as a struct keeps them. Assumes nothing.
use Rattle.std.specs.Prelude.{◌≡◌, ℕ, ◌-◌, List, take, drop, replicate}
use Rattle.rules.specs.Trees.{Tree, leaves}
use Rattle.positions.specs.declared.sets.Positions.{Positions}
use Rattle.positions.specs.Positions.{nullable, first_set, last_set, follow_sets, leaf_of}

-- the follow set of each leaf
abbrev pub kept_follow : Positions → List ℕ
kept_follow p = take p.count p.follow

-- the lo and hi of each leaf
abbrev pub kept_leaves : Positions → List (ℕ × ℕ)
kept_leaves p = take p.count p.leaves

-- p has the position sets of t, and zeros behind them
pub record SetsOf (t : Tree) (p : Positions) : Type 0 where
  pub nullable_is : p.nullable ≡ nullable t
  pub first_is : p.first ≡ first_set t 0
  pub last_is : p.last ≡ last_set t 0
  pub count_is : p.count ≡ leaves t
  pub follow_is : kept_follow p ≡ follow_sets t 0
  pub leaves_are : kept_leaves p ≡ leaf_of t
  pub no_more_follow : drop p.count p.follow ≡ replicate (32 - p.count) 0
  pub no_more_leaves : drop p.count p.leaves ≡ replicate (32 - p.count) (0, 0)
