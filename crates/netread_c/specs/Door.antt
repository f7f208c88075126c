-- What the function for C returns, and what it leaves in the output. Assumes nothing.
use Rattle.std.specs.Prelude.{◌≡◌, ℕ, ◌-◌, ◌^◌, ◌<◌, ◌≤◌, ◌⊎◌, List, ◌++◌, length, take, drop}
use Rattle.session.specs.Lines.{lines}
use Rattle.constraints.specs.Served.{FileSession}

-- the bytes are written to the front of the output where there is room for them all; r tells how many there are in either case
pub record HandedOut (printed output output' : List ℕ) (r : ℕ) : Type 0 where
  pub counted : r ≡ length printed
  pub written : r ≤ length output → output' ≡ printed ++ drop r output
  pub kept : length output < r → output' ≡ output

-- what the lines of the input print is handed out; or memory is wanting, and nothing is written
abbrev pub Serves : List ℕ → List ℕ → List ℕ → ℕ → Type 0
Serves input output output' r =
    ((printed : List ℕ) × FileSession (lines (take 65536 input)) printed × HandedOut printed output output' r) ⊎ ((r ≡ 2 ^ 64 - 1) × (output' ≡ output))
