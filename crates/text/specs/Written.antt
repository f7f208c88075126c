-- What the readers write into the rows that they keep, and how far they come. Assumes nothing.
use Rattle.std.specs.Prelude.{◌≡◌, ℕ, ◌+◌, ◌<◌, ◌≤◌, List, ◌++◌, length, drop, slice_index_or}
use Rattle.rules.specs.declared.row.Row.{Row}
use Rattle.rules.specs.Trees.{Tree, row, rows, size}
use Rattle.text.specs.Readers.{Stars}

-- the rows kept begin with the list, as far as they have room
abbrev pub Holds : List Row → List Row → Type 0
Holds buffer list = (k : ℕ) → k < length list → k < 64 → slice_index_or buffer k (row 0 0 0) ≡ slice_index_or list k (row 0 0 0)

-- the rows from `at` up to `end` have moved up by one, and `r` stands in front of them
pub record Inserted (old : List Row) (at end : ℕ) (r : Row) (new : List Row) : Type 0 where
  pub below : (k : ℕ) → k < at → k < 64 → slice_index_or new k (row 0 0 0) ≡ slice_index_or old k (row 0 0 0)
  pub here : at < 64 → slice_index_or new at (row 0 0 0) ≡ r
  pub above : (k : ℕ) → at ≤ k → k < end → k + 1 < 64 → slice_index_or new (k + 1) (row 0 0 0) ≡ slice_index_or old k (row 0 0 0)

-- read from `at`, with `count` rows before: the bytes up to `to` are a tree, whose rows end at `end`
pub record Reaches (R : List ℕ → Tree → List ℕ → Type 0) (text : List ℕ) (at count to end : ℕ) (old new : List Row) : Type 0 where
  pub tree : Tree
  pub reads : R (drop at text) tree (drop to text)
  pub counted : end ≡ count + size tree
  pub written : (front : List Row) → length front ≡ count → Holds old front → Holds new (front ++ rows tree)

-- nothing can be read from here
abbrev pub Refuses : (List ℕ → Tree → List ℕ → Type 0) → List ℕ → Type 0
Refuses R i = (t : Tree) (x : List ℕ) → R i t x → ⊥

-- the tree t, whose rows begin at `start`, becomes another by the stars from `at` up to `to`
pub record Starred (text : List ℕ) (start at to end : ℕ) (old new : List Row) (t : Tree) : Type 0 where
  pub tree : Tree
  pub reads : Stars (drop at text) t tree (drop to text)
  pub counted : end ≡ start + size tree
  pub written : (front : List Row) → length front ≡ start → Holds old (front ++ rows t) → Holds new (front ++ rows tree)
