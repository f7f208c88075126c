-- How each step of the reader changes it. Assumes nothing.
use Rattle.std.specs.Prelude.{◌≡◌, ℕ, ◌+◌, ◌*◌, ◌<◌, ◌≤◌, List, ◌∷◌, drop, Result, MatchResult}
use Rattle.rules.specs.declared.denial.Denial.{Denial}
use Rattle.rules.specs.declared.row.Row.{Row}
use Rattle.rules.specs.Trees.{Tree}
use Rattle.rules.specs.Denials.{number}
use Rattle.text.specs.declared.readers.Reader.{Reader}
use Rattle.text.specs.declared.sign.Sign.{Sign}
use Rattle.text.specs.Signs.{Signed, Unsigned}
use Rattle.text.specs.Written.{Inserted, Reaches, Refuses}

-- there is room for one row more before the next byte is read
abbrev pub HasRoom : Reader → Type 0
HasRoom r = r.count ≤ 2 * r.at

-- a tree is read, and its rows are written
pub record Goes (R : List ℕ → Tree → List ℕ → Type 0) (old new : Reader) : Type 0 where
  pub text : new.text.now ≡ old.text.now
  pub reaches : Reaches R old.text.now old.at old.count new.at new.count old.rows new.rows

-- a tree is read, or nothing can be read from here
abbrev pub Reads : (List ℕ → Tree → List ℕ → Type 0) → Reader → Reader → Result (Unit {0}) Denial → Type 0
Reads R old new r = MatchResult r (λ _. Goes R old new) (λ d. (number d ≡ 13) × Refuses R (drop old.at old.text.now))

-- the rows stay as they are
pub record Moved (old new : Reader) : Type 0 where
  pub text : new.text.now ≡ old.text.now
  pub count : new.count ≡ old.count
  pub rows : new.rows ≡ old.rows

-- one row more, before those from `at` on
pub record Grows (old new : Reader) (at : ℕ) (r : Row) : Type 0 where
  pub text : new.text.now ≡ old.text.now
  pub read : new.at ≡ old.at
  pub count : new.count ≡ old.count + 1
  pub rows : Inserted old.rows at old.count r new.rows

-- the next byte is this one, and is read
pub record Takes (old new : Reader) (byte : ℕ) : Type 0 where
  pub moved : Moved old new
  pub at : new.at ≡ old.at + 1
  pub here : drop old.at old.text.now ≡ byte ∷ drop (old.at + 1) old.text.now

-- the next sign is read, or there is none
abbrev pub Signs : Reader → Reader → Result Sign Denial → Type 0
Signs old new r = MatchResult r (λ s. Moved old new × (old.at < new.at) × Signed s (drop old.at old.text.now) (drop new.at old.text.now)) (λ d. (number d ≡ 13) × Unsigned (drop old.at old.text.now))
