-- A half of a split whose place has two names.
use Rattle.std.proofs.Common.{◌≡◌, ℕ, List, subst}
use Rattle.rules.specs.Trees.{Tree}
use Rattle.rules.specs.Languages.{Sight, In, part}

module _ (w : List Sight) {d k : ℕ} (is : d ≡ k) where
  pub front_moved : (s : Tree) (i : ℕ) → In s (part w i d) → In s (part w i k)
  front_moved s i = subst (λ z. In s (part w i z)) is

  pub back_moved : (s : Tree) (j : ℕ) → In s (part w d j) → In s (part w k j)
  back_moved s j = subst (λ z. In s (part w z j)) is
