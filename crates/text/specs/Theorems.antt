-- The theorems of this crate; each is the contract of a function. Assumes nothing.
use Rattle.std.specs.Prelude.{◌≡◌, ℕ, List, Result}
use Rattle.rules.specs.declared.row.Row.{Row}
use Rattle.rules.specs.declared.denial.Denial.{Denial}
use Rattle.rules.specs.Trees.{Tree}
use Rattle.text.specs.Grammar.{Text}
use Rattle.text.specs.Reading.{Outcome}

-- the grammar is unambiguous: no text is derived to two trees
abbrev pub OneTree : Type 0
OneTree = (b : List ℕ) (t u : Tree) → Text b t → Text b u → t ≡ u

-- the text and the rows lent decide the answer, a denial's number too, and what the rows become
abbrev pub OneOutcome : Type 0
OneOutcome = (text : List ℕ) (old new new2 : List Row) (r s : Result ℕ Denial) → Outcome text old new r → Outcome text old new2 s → (r ≡ s) × (new ≡ new2)
