-- What a locked sheet answers to its three questions. Assumes nothing.
use Rattle.std.specs.Prelude.{◌≡◌, ℕ, ◌+◌, ◌*◌, ◌<◌, cond, List, [], ◌∷◌, ◌++◌, length, drop, Some, None, Ok, Err, Option, Result, ◌==◌, nat_lt, slice_index_or}
use Rattle.rules.specs.declared.row.Row.{Row}
use Rattle.rules.specs.declared.denial.Denial.{Denial}
use Rattle.rules.specs.Trees.{Tree, Of, leaves}
use Rattle.rules.specs.Checks.{first_met}
use Rattle.rules.specs.Denials.{number, numbered}
use Rattle.rules.specs.Languages.{Sight}
use Rattle.rules.specs.Readings.{Reading, ReadsWhole, report_row}
use Rattle.policies.specs.Orders.{Order, Best}
use Rattle.positions.specs.Positions.{nullable, first_set, last_set, follow_sets}
use Rattle.sheet.specs.declared.summary.Summary.{Summary}
use Rattle.sheet.specs.Changes.{Rules, place_met}

-- the rows of the rule at a place
abbrev pub at : Rules → ℕ → List Row
at rules place = slice_index_or rules place []

-- the rule with these rows reads w: it has a reading of it
abbrev pub Read : List Row → List Sight → Type 0
Read rs w = (t : Tree) × Of rs t × ((x : Reading) × ReadsWhole w t x)

-- x is the reading of w by the rule with these rows that outranks every other
abbrev pub BestBy : Order → List Row → List Sight → Reading → Type 0
BestBy above rs w x = (t : Tree) × Of rs t × Best above t w x

-- 8: the name has over 120 symbols
abbrev pub name_met : ℕ → Option ℕ
name_met symbols = cond (nat_lt 120 symbols) (Some 8) None

-- the bytes of bench that a rule of so many nodes needs for a name of so many symbols
abbrev pub needed : ℕ → ℕ → ℕ
needed nodes symbols = nodes * (symbols + 1) * (symbols + 1)

-- 9: the bench is shorter than is needed
abbrev pub bench_met : ℕ → ℕ → ℕ → Option ℕ
bench_met nodes symbols bench = cond (nat_lt bench (needed nodes symbols)) (Some 9) None

-- 10: there are fewer entries or masks than the answer needs
abbrev pub room_met : ℕ → ℕ → Option ℕ
room_met needs has = cond (nat_lt has needs) (Some 10) None

-- the first of the checks 7 to 10 that a spans meets, with a bench and a report of these lengths
abbrev pub spans_met : Rules → ℕ → ℕ → ℕ → ℕ → Option ℕ
spans_met rules place symbols bench report =
    first_met (place_met rules place) (first_met (name_met symbols) (first_met (bench_met (length (at rules place)) symbols bench) (room_met (length (at rules place)) report)))

-- the report after is the best reading, and what lay behind it; each entry stands for its report row
pub record Reported (above : Order) (rs : List Row) (w : List Sight) (report report' : Reading) : Type 0 where
  pub reading : Reading
  pub best : BestBy above rs w reading
  pub written : report' ≡ reading ++ drop (length rs) report
  pub rows_shown : (n : ℕ) → n < length rs → report_row (slice_index_or report' n None) ≡ report_row (slice_index_or reading n None)

-- the answer to a spans, from the first of the checks 7 to 10 that it meets, with bench and report before and after
abbrev pub Spanned : Option ℕ → Order → List Row → List Sight → List ℕ → List ℕ → Reading → Reading → Result (Unit {0}) Denial → Type 0
Spanned (Some n) above rs w bench bench' report report' r = (numbered r ≡ Err n) × (bench' ≡ bench) × (report' ≡ report)
Spanned None above rs w bench bench' report report' (Ok done) = Reported above rs w report report'
Spanned None above rs w bench bench' report report' (Err d) = (number d ≡ 11) × (Read rs w → ⊥) × (report' ≡ report)

abbrev pub SpansAnswer : Order → List Sight → Rules → ℕ → List ℕ → List ℕ → Reading → Reading → Result (Unit {0}) Denial → Type 0
SpansAnswer above w rules place bench bench' report report' r =
    Spanned (spans_met rules place (length w) (length bench) (length report)) above (at rules place) w bench bench' report report' r

-- place is the lowest whose rule reads w
pub record Lowest (rules : Rules) (w : List Sight) (place : ℕ) : Type 0 where
  pub held : place < length rules
  pub reads : Read (at rules place) w
  pub none_before : (k : ℕ) → k < place → Read (at rules k) w → ⊥

-- the answer to a govern, from the check that it meets: the lowest place whose rule reads w, or 11 where no rule does
abbrev pub Governed : Option ℕ → Rules → List Sight → Result ℕ Denial → Type 0
Governed (Some n) rules w r = numbered r ≡ Err n
Governed None rules w (Ok place) = Lowest rules w place
Governed None rules w (Err d) = (number d ≡ 11) × ((k : ℕ) → k < length rules → Read (at rules k) w → ⊥)

abbrev pub GovernAnswer : Rules → List Sight → Result ℕ Denial → Type 0
GovernAnswer rules w r = Governed (name_met (length w)) rules w r

-- how many leaves a rule with these rows has
abbrev pub leaf_rows : List Row → ℕ
leaf_rows [] = 0
leaf_rows (r ∷ rs) = cond (r.kind == 1) 1 0 + leaf_rows rs

-- the first of the checks 7 and 10 that a sets meets, with so many masks
abbrev pub sets_met : Rules → ℕ → ℕ → Option ℕ
sets_met rules place masks = first_met (place_met rules place) (room_met (leaf_rows (at rules place)) masks)

-- the position sets of a tree, but for the follow sets
abbrev pub summary : Tree → Summary
summary t = record { nullable = nullable t; first = first_set t 0; last = last_set t 0; leaves = leaves t }

-- the answer to a sets, from the check that it meets, with the masks before and after
abbrev pub SetOut : Option ℕ → List Row → List ℕ → List ℕ → Result Summary Denial → Type 0
SetOut (Some n) rs masks masks' r = (numbered r ≡ Err n) × (masks' ≡ masks)
SetOut None rs masks masks' r = (t : Tree) × Of rs t × (r ≡ Ok (summary t)) × (masks' ≡ follow_sets t 0 ++ drop (leaves t) masks)

abbrev pub SetsAnswer : Rules → ℕ → List ℕ → List ℕ → Result Summary Denial → Type 0
SetsAnswer rules place masks masks' r = SetOut (sets_met rules place (length masks)) (at rules place) masks masks' r
