-- The number of each denial. Assumes nothing.
use Rattle.std.specs.Prelude.{ℕ, Ok, Err, Result}
use Rattle.rules.specs.declared.denial.Denial.{Denial}
use Rattle.rules.specs.declared.denial.Denial.TheVariants.{SheetFull, RowCount, UnknownKind, NotAdmitted, RowTooMany, RowsMissing, NoSuchPlace, NameTooLong, BenchTooShort, AnswerTooLong, NotRead, TextTooLong, NotDerived, TextRows}

-- the number of a denial
abbrev pub number : Denial → ℕ
number SheetFull = 1
number RowCount = 2
number UnknownKind = 3
number NotAdmitted = 4
number RowTooMany = 5
number RowsMissing = 6
number NoSuchPlace = 7
number NameTooLong = 8
number BenchTooShort = 9
number AnswerTooLong = 10
number NotRead = 11
number TextTooLong = 12
number NotDerived = 13
number TextRows = 14

-- a result, with a denial by its number
abbrev pub numbered : {X : Type 0} → Result X Denial → Result X ℕ
numbered (Ok x) = Ok x
numbered (Err d) = Err (number d)
