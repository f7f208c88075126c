-- The kinds of nodes and their numbers. Assumes nothing.
use Rattle.std.specs.Prelude.{◌≡◌, ℕ, ◌<◌, Result, MatchResult}
use Rattle.rules.specs.declared.row.Row.{Row}
use Rattle.rules.specs.Trees.{row}
use Rattle.rules.specs.declared.denial.Denial.{Denial}
use Rattle.rules.specs.declared.denial.Denial.TheVariants.{UnknownKind}
use Rattle.rules.specs.declared.kind.Kind.{Kind}
use Rattle.rules.specs.declared.kind.Kind.TheVariants.{Empty, Leaf, Choice, Sequence, Star}

-- the number of a kind, as it stands in a row
abbrev pub kind_number : Kind → ℕ
kind_number Empty = 0
kind_number Leaf = 1
kind_number Choice = 2
kind_number Sequence = 3
kind_number Star = 4

-- the kind of a number, or that a number over 4 is no kind's
abbrev pub KindOf : ℕ → Result Kind Denial → Type 0
KindOf n r = MatchResult r (λ k. kind_number k ≡ n) (λ d. (d ≡ UnknownKind) × (4 < n))

-- the row of a node of the kind has no numbers
abbrev pub RowOf : Kind → Row → Type 0
RowOf k r = r ≡ row (kind_number k) 0 0
