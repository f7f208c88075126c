-- The position sets beside a rule are those of its tree.
use Rattle.std.proofs.Common.{ℕ, List}
use mathlib.Core.Bool.{Bool-set}
use mathlib.Core.List.{is_set}
use mathlib.Core.HLevel.{Π_prop, Σ_set}
use mathlib.Core.Logic.{∥∥₁_elim}
use native.Mathlib.Nat.{ℕ_set}
use Rattle.rules.specs.Trees.{Tree, Of}
use Rattle.positions.specs.declared.sets.Positions.{Positions}
use Rattle.positions.specs.SetsOf.{SetsOf}
use Rattle.sheet.specs.declared.held.Held.{Held}
use Rattle.sheet.specs.Sheets.{held_rows}

pairs_set : IsSet (List (ℕ × ℕ))
pairs_set = is_set (Σ_set ℕ_set (λ _. ℕ_set))

sets_prop : (t : Tree) (p : Positions) → IsProp (SetsOf t p)
sets_prop t p x y = λ i. record {
  nullable_is = Bool-set _ _ x.nullable_is y.nullable_is i;
  first_is = ℕ_set _ _ x.first_is y.first_is i;
  last_is = ℕ_set _ _ x.last_is y.last_is i;
  count_is = ℕ_set _ _ x.count_is y.count_is i;
  follow_is = is_set ℕ_set _ _ x.follow_is y.follow_is i;
  leaves_are = pairs_set _ _ x.leaves_are y.leaves_are i;
  no_more_follow = is_set ℕ_set _ _ x.no_more_follow y.no_more_follow i;
  no_more_leaves = pairs_set _ _ x.no_more_leaves y.no_more_leaves i;
}

pub sets_held : (h : Held) (t : Tree) → Of (held_rows h) t → SetsOf t h.sets
sets_held h = ∥∥₁_elim h.of (Π_prop (λ t. Π_prop (λ e. sets_prop t h.sets))) (λ f. f)
