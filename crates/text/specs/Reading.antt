-- What the reader of pattern text answers, and what it leaves in the rows. Assumes nothing.
use Rattle.std.specs.Prelude.{◌≡◌, ℕ, ◌<◌, ◌≤◌, List, ◌++◌, length, drop, Result, MatchResult}
use Rattle.rules.specs.declared.row.Row.{Row}
use Rattle.rules.specs.declared.denial.Denial.{Denial}
use Rattle.rules.specs.Trees.{Tree, rows, size}
use Rattle.rules.specs.Denials.{number}
use Rattle.text.specs.Grammar.{Text}

-- the text writes a rule of n rows; these are written, and the rows behind them stay
pub record Wrote (text : List ℕ) (old : List Row) (n : ℕ) (new : List Row) : Type 0 where
  pub short : length text ≤ 200
  pub tree : Tree
  pub derived : Text text tree
  pub counted : n ≡ size tree
  pub few : n ≤ 64
  pub room : n ≤ length old
  pub written : new ≡ rows tree ++ drop n old

-- the number by which a text is denied where there is room for so many rows: the first of 12, 13, 14, 10 that is met
pub data Denied (text : List ℕ) (room : ℕ) : ℕ → Type 0 where
  too_long : 200 < length text → Denied text room 12
  not_derived : length text ≤ 200 → ((t : Tree) → Text text t → ⊥) → Denied text room 13
  too_many_rows : length text ≤ 200 → (t : Tree) → Text text t → 64 < size t → Denied text room 14
  no_room : length text ≤ 200 → (t : Tree) → Text text t → size t ≤ 64 → room < size t → Denied text room 10

-- a served call writes the rows; a denied one has its number, and leaves the rows as they were
abbrev pub Outcome : List ℕ → List Row → List Row → Result ℕ Denial → Type 0
Outcome text old new r = MatchResult r (λ n. Wrote text old n new) (λ d. (new ≡ old) × Denied text (length old) (number d))
