-- The theorems of this crate; each is the contract of a function. Assumes nothing.
use Rattle.std.specs.Prelude.{◌≡◌, ℕ, ◌≤◌, Bool, ◌↔◌, List, length, None}
use Rattle.rules.specs.declared.row.Row.{Row}
use Rattle.rules.specs.Trees.{Tree, size, leaves, Of}
use Rattle.rules.specs.Languages.{Sight, In}
use Rattle.rules.specs.Checks.{checks, AllAdmitted}
use Rattle.rules.specs.Readings.{Reading, ReadsWhole}

-- whether a name is in the language can be decided
abbrev pub LanguageDecided : Type 0
LanguageDecided = (t : Tree) (w : List Sight) → Dec (In t w)

-- a name has a reading exactly where it is in the language
abbrev pub ReadingsExactly : Type 0
ReadingsExactly = (t : Tree) (w : List Sight) → In t w ↔ ((r : Reading) × ReadsWhole w t r)

-- a tree of at most 64 rows has at most 32 leaves
abbrev pub FewLeaves : Type 0
FewLeaves = (t : Tree) → size t ≤ 64 → leaves t ≤ 32

-- 1 to 64 rows meet no check exactly when they are the rows of a tree whose leaves are all admitted, and that tree is the only one
abbrev pub CheckedExactly : Type 0
CheckedExactly = (admitted : ℕ → ℕ → Bool) (rs : List Row) → 1 ≤ length rs → length rs ≤ 64
    → (checks admitted rs ≡ None) ↔ ((t : Tree) × Of rs t × AllAdmitted admitted t × ((u : Tree) → Of rs u → u ≡ t))
