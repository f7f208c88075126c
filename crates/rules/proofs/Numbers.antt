-- No two denials have one number.
use Rattle.std.proofs.Common.{◌≡◌, ℕ, List, [], ◌∷◌, get_or, sym, refl, ap, ◌∙◌}
use Rattle.rules.specs.declared.denial.Denial.{Denial}
use Rattle.rules.specs.declared.denial.Denial.TheVariants.{SheetFull, RowCount, UnknownKind, NotAdmitted, RowTooMany, RowsMissing, NoSuchPlace, NameTooLong, BenchTooShort, AnswerTooLong, NotRead, TextTooLong, NotDerived, TextRows}
use Rattle.rules.specs.Denials.{number}

-- the denials by their numbers; the first stands for 0 too
abbrev by_number : List Denial
by_number = SheetFull ∷ SheetFull ∷ RowCount ∷ UnknownKind ∷ NotAdmitted ∷ RowTooMany ∷ RowsMissing ∷ NoSuchPlace ∷ NameTooLong ∷ BenchTooShort ∷ AnswerTooLong ∷ NotRead ∷ TextTooLong ∷ NotDerived ∷ TextRows ∷ []

numbered : (d : Denial) → get_or by_number (number d) SheetFull ≡ d
numbered SheetFull = refl
numbered RowCount = refl
numbered UnknownKind = refl
numbered NotAdmitted = refl
numbered RowTooMany = refl
numbered RowsMissing = refl
numbered NoSuchPlace = refl
numbered NameTooLong = refl
numbered BenchTooShort = refl
numbered AnswerTooLong = refl
numbered NotRead = refl
numbered TextTooLong = refl
numbered NotDerived = refl
numbered TextRows = refl

pub same_number : (d e : Denial) → number d ≡ number e → d ≡ e
same_number d e h = sym (numbered d) ∙ ap (λ (n : ℕ). get_or by_number n SheetFull) h ∙ numbered e
