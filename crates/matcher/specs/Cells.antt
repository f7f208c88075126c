-- What a cell of the bench holds. Assumes nothing.
use Rattle.std.specs.Prelude.{◌≡◌, ℕ, ◌<◌}
use Rattle.matcher.specs.declared.bench.Cell.{Cell}
use Rattle.matcher.specs.declared.bench.Cell.TheVariants.{Unknown, Has, Lacks, Code}

-- the byte of a cell
abbrev pub cell_byte : Cell → ℕ
cell_byte Unknown = 0
cell_byte Has = 254
cell_byte Lacks = 255
cell_byte (Code c) = c

-- the cell of a byte: one that is no mark is a code
abbrev pub CellOf : ℕ → Cell → Type 0
CellOf n Unknown = n ≡ 0
CellOf n Has = n ≡ 254
CellOf n Lacks = n ≡ 255
CellOf n (Code c) = (n ≡ c) × (0 < n) × (n < 254)
