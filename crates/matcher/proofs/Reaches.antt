-- The splits that a symbol or nothing leaves.
use Rattle.std.proofs.Common.{◌≡◌, ℕ, suc, ◌+◌, ◌-◌, ◌≤◌, List, length, arith}
use Rattle.rules.specs.declared.row.Row.{Row}
use Rattle.rules.specs.Trees.{Tree}
use Rattle.rules.specs.Languages.{Sight, In, part}
use Rattle.rules.proofs.Parts.{empty_part, leaf_part}
use Rattle.rules.specs.Nodes.{Stands}
use Rattle.matcher.specs.States.{Reach}
use Rattle.matcher.proofs.Nodes.{kind_at}
use Rattle.matcher.proofs.ByKind.{by_empty, by_leaf}

module _ (rs : List Row) (m : ℕ) (w : List Sight) (i j : ℕ) (l : i ≤ j) (u : j ≤ length w) where
  empty_span : kind_at rs m ≡ 0 → (s : Tree) → Stands rs m s → In s (part w i j) → i ≡ j
  empty_span k = by_empty rs m (λ s. In s (part w i j) → i ≡ j) k (λ _ h. empty_part w i j l u h)

  leaf_span : kind_at rs m ≡ 1 → (s : Tree) → Stands rs m s → In s (part w i j) → j ≡ suc i
  leaf_span k = by_leaf rs m (λ s. In s (part w i j) → j ≡ suc i) k (λ lo hi _ h. leaf_part w lo hi i j l u h)

module _ (rs : List Row) (p q i j : ℕ) (l : i ≤ j) where
  pub first_empty : kind_at rs p ≡ 0 → Reach rs p q i j i (i + 1)
  first_empty k = record {
    from = omega arith;
    order = omega arith;
    to = omega arith;
    only = λ w v s s' a b h x y c d.
        let e = empty_span rs p w i h x (omega arith) k s a c in (x, omega arith);
  }

  pub second_empty : kind_at rs q ≡ 0 → Reach rs p q i j j (j + 1)
  second_empty k = record {
    from = l;
    order = omega arith;
    to = omega arith;
    only = λ w v s s' a b h x y c d.
        let e = empty_span rs q w h j y v k s' b d in (omega arith, omega arith);
  }

  pub first_none : kind_at rs p ≡ 1 → i ≡ j → Reach rs p q i j (j + 1) (j + 1)
  first_none k z = record {
    from = omega arith;
    order = omega arith;
    to = omega arith;
    only = λ w v s s' a b h x y c d.
        let e = leaf_span rs p w i h x (omega arith) k s a c in absurd (omega arith);
  }

  pub first_leaf : kind_at rs p ≡ 1 → (i ≡ j → ⊥) → Reach rs p q i j (i + 1) (i + 2)
  first_leaf k z = record {
    from = omega arith;
    order = omega arith;
    to = omega arith;
    only = λ w v s s' a b h x y c d.
        let e = leaf_span rs p w i h x (omega arith) k s a c in (omega arith, omega arith);
  }

  pub second_none : kind_at rs q ≡ 1 → i ≡ j → Reach rs p q i j (j + 1) (j + 1)
  second_none k z = record {
    from = omega arith;
    order = omega arith;
    to = omega arith;
    only = λ w v s s' a b h x y c d.
        let e = leaf_span rs q w h j y v k s' b d in absurd (omega arith);
  }

  pub second_leaf : kind_at rs q ≡ 1 → (i ≡ j → ⊥) → Reach rs p q i j (j - 1) j
  second_leaf k z = record {
    from = omega arith;
    order = omega arith;
    to = omega arith;
    only = λ w v s s' a b h x y c d.
        let e = leaf_span rs q w h j y v k s' b d in (omega arith, omega arith);
  }
