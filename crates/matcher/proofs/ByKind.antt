-- The tree at a node, by the kind of its row.
use Rattle.std.proofs.Common.{◌≡◌, ℕ, ◌<◌, List, sym, arith}
use native.Mathlib.Decide.{dec_lt}
use Rattle.rules.specs.declared.kind.Kind.TheVariants.{Empty, Leaf, Choice, Sequence, Star}
use Rattle.rules.specs.declared.row.Row.{Row}
use Rattle.rules.specs.Nodes.{Stands}
use Rattle.rules.specs.Trees.{Tree, empty, leaf, choice, sequence, star, row}
use Rattle.rules.proofs.Nodes.{at_kind, kind_known}
use Rattle.matcher.proofs.Nodes.{kind_at}

module _ (rs : List Row) (m : ℕ) (P : Tree → Type 0) where
  pub by_empty : kind_at rs m ≡ 0 → (Stands rs m empty → P empty) → (s : Tree) → Stands rs m s → P s
  by_empty k = at_kind rs m (row 0 0 0) Empty (sym k) P

  pub by_leaf : kind_at rs m ≡ 1 → ((lo hi : ℕ) → Stands rs m (leaf lo hi) → P (leaf lo hi)) → (s : Tree) → Stands rs m s → P s
  by_leaf k = at_kind rs m (row 0 0 0) Leaf (sym k) P

  pub by_choice : kind_at rs m ≡ 2 → ((p q : Tree) → Stands rs m (choice p q) → P (choice p q)) → (s : Tree) → Stands rs m s → P s
  by_choice k = at_kind rs m (row 0 0 0) Choice (sym k) P

  pub by_sequence : kind_at rs m ≡ 3 → ((p q : Tree) → Stands rs m (sequence p q) → P (sequence p q)) → (s : Tree) → Stands rs m s → P s
  by_sequence k = at_kind rs m (row 0 0 0) Sequence (sym k) P

  pub by_star : 3 < kind_at rs m → ((p : Tree) → Stands rs m (star p) → P (star p)) → (s : Tree) → Stands rs m s → P s
  by_star k f s h =
      let four : 4 ≡ kind_at rs m = elim (dec_lt 4 (kind_at rs m)) [ yes u ↦ absurd (kind_known rs m (row 0 0 0) s h u) | no u ↦ omega arith ] in
      at_kind rs m (row 0 0 0) Star four P f s h
