-- What visiting a node of a rule tells, and what it writes. Assumes nothing.
use Rattle.std.specs.Prelude.{◌≡◌, ℕ, ◌+◌, ◌^◌, ◌≤◌, true, false, cond, ◌&&◌, ◌||◌, List, ◌++◌, length, replicate, bit_or}
use Rattle.rules.specs.declared.row.Row.{Row}
use Rattle.rules.specs.Trees.{Tree, size, leaves}
use Rattle.rules.specs.Nodes.{Stands}
use Rattle.positions.specs.declared.sets.visit.Part.{Part}
use Rattle.positions.specs.Positions.{nullable, first_set, last_set, follow_sets}

-- a tree stands from row n on, and its leaves, numbered from x on, are below 32
pub record Placed (rs : List Row) (n x : ℕ) : Type 0 where
  pub tree : Tree
  pub stands : Stands rs n tree
  pub room : x + leaves tree ≤ 32

-- what the visit of s at row n, with leaves from x on, tells
abbrev pub told : Tree → ℕ → ℕ → Part
told s n x = record { nullable = nullable s; first = first_set s x; last = last_set s x; next_node = n + size s; next_leaf = x + leaves s }

-- an empty, and a leaf, with the numbers of the next node and of this or the next leaf
abbrev pub empty_part : ℕ → ℕ → Part
empty_part node leaf = record { nullable = true; first = 0; last = 0; next_node = node; next_leaf = leaf }

abbrev pub leaf_part : ℕ → ℕ → Part
leaf_part node leaf = record { nullable = false; first = 2 ^ leaf; last = 2 ^ leaf; next_node = node; next_leaf = leaf + 1 }

-- a choice of two parts, the second standing behind the first
abbrev pub either : Part → Part → Part
either p q = record { nullable = p.nullable || q.nullable; first = bit_or p.first q.first; last = bit_or p.last q.last; next_node = q.next_node; next_leaf = q.next_leaf }

-- two parts in sequence, the second standing behind the first
abbrev pub both : Part → Part → Part
both p q = record {
  nullable = p.nullable && q.nullable;
  first = bit_or p.first (cond p.nullable q.first 0);
  last = bit_or (cond q.nullable p.last 0) q.last;
  next_node = q.next_node;
  next_leaf = q.next_leaf;
}

-- what the visit of s tells, and that it writes the follow sets of its leaves, where zeros were, and no others
pub record Visit (s : Tree) (n x : ℕ) (before : List ℕ) (r : Part) (after : List ℕ) : Type 0 where
  pub tells : r ≡ told s n x
  pub writes : (a c : List ℕ) → length a ≡ x → before ≡ a ++ (replicate (leaves s) 0 ++ c) → after ≡ a ++ (follow_sets s x ++ c)

-- the tree that stands from row n on was visited
abbrev pub Visited : List Row → ℕ → ℕ → List ℕ → Part → List ℕ → Type 0
Visited rs n x before r after = (s : Tree) → Stands rs n s → Visit s n x before r after
