-- Which words of bytes a tree has: the names of the rule's tree that it stands for. Assumes nothing.
use Rattle.std.specs.Prelude.{◌≡◌, ℕ, ◌≤◌, List, [], ◌∷◌, length, take, drop}
use Rattle.rules.specs.declared.row.Row.{Row}
use Rattle.rules.specs.Alphabets.{bytes_held}
use Rattle.rules.specs.Languages.{In, seen}
use Rattle.rules.specs.Trees.{empty, leaf, choice, sequence, star}
use Rattle.rules.specs.Trees as rule
use Rattle.cases.specs.declared.tree.Tree.{Tree}
use Rattle.cases.specs.declared.tree.Tree.TheVariants.{Empty, Leaf, Choice', Sequence', Star'}

-- the rule's tree
abbrev pub ruled : Tree → rule.Tree
ruled Empty = empty
ruled (Leaf lo hi) = leaf lo hi
ruled (Choice' p first q second) = choice (ruled first) (ruled second)
ruled (Sequence' p first q second) = sequence (ruled first) (ruled second)
ruled (Star' p part) = star (ruled part)

-- the word is a name of the rule's tree
abbrev pub IsName : rule.Tree → List ℕ → Type 0
IsName t word = In t (seen bytes_held word)

-- a beginning of the word, of so many bytes at least, is a name of the first tree, and the rest one of the next
abbrev pub IsNameBefore : rule.Tree → rule.Tree → List ℕ → ℕ → Type 0
IsNameBefore first next word least = (k : ℕ) × (least ≤ k) × (k ≤ length word) × IsName first (take k word) × IsName next (drop k word)

-- the word is a name of the tree
abbrev pub Has : Tree → List ℕ → Type 0
Has t word = IsName (ruled t) word

-- the same of a beginning and the rest
abbrev pub HasBefore : Tree → Tree → List ℕ → ℕ → Type 0
HasBefore first next word least = IsNameBefore (ruled first) (ruled next) word least

-- the word is one byte that the leaf of the row holds
abbrev pub LeafHas : Row → List ℕ → Type 0
LeafHas r word = (byte : ℕ) × (word ≡ byte ∷ []) × (r.lo ≤ byte) × (byte ≤ r.hi)
