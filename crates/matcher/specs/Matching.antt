-- What best_reading answers: the best reading of a name by a rule, or why there is none. Assumes nothing.
use Rattle.std.specs.Prelude.{◌≡◌, ℕ, ◌+◌, ◌*◌, ◌≤◌, List, ◌++◌, length, drop, Result, Ok, Err}
use Rattle.rules.specs.Trees.{Tree, size}
use Rattle.rules.specs.Languages.{Sight, In}
use Rattle.rules.specs.Readings.{Reading}
use Rattle.policies.specs.Orders.{Order, Best}
use Rattle.matcher.specs.declared.matching.Unmatched.{Unmatched}
use Rattle.matcher.specs.declared.matching.Unmatched.TheVariants.{Unfit, NotRead}

-- the name is short enough, the bench has a byte for each node and stretch, and the report has an entry for each node
pub record Fits (nodes symbols bench report : ℕ) : Type 0 where
  pub short : symbols ≤ 120
  pub cells : nodes * (symbols + 1) * (symbols + 1) ≤ bench
  pub entries : nodes ≤ report

-- the name w, a bench and a report fit the rule t
abbrev pub Fit : Tree → List Sight → List ℕ → Reading → Type 0
Fit t w bench report = Fits (size t) (length w) (length bench) (length report)

-- the answer to the name w by the rule t, with the bench and the report before and after
abbrev pub Outcome : Order → Tree → List Sight → List ℕ → List ℕ → Reading → Reading → Result (Unit {0}) Unmatched → Type 0
Outcome above t w bench bench' report report' (Err Unfit) = (Fit t w bench report → ⊥) × (report' ≡ report) × (bench' ≡ bench)
Outcome above t w bench bench' report report' (Err NotRead) = Fit t w bench report × (In t w → ⊥) × (report' ≡ report)
Outcome above t w bench bench' report report' (Ok done) = Fit t w bench report × ((x : Reading) × Best above t w x × (report' ≡ x ++ drop (size t) report))
