-- The answer of best_reading, from what its calls gave on the rule's rows.
use Rattle.std.proofs.Common.{◌≡◌, ℕ, ◌≤◌, List, ◌++◌, length, take, drop, Result, Ok, Err, sym, ap, ◌∙◌, subst, append-nil, arith, length-take}
use Rattle.std.proofs.lemmas.List.{take-append-drop, drop_all}
use Rattle.rules.specs.declared.row.Row.{Row}
use Rattle.rules.specs.Trees.{Tree, size, Of}
use Rattle.rules.specs.Languages.{Sight}
use Rattle.rules.specs.Readings.{Reading}
use Rattle.policies.specs.Orders.{Order}
use Rattle.rules.proofs.RowFacts.{length_rows}
use Rattle.matcher.specs.declared.matching.Unmatched.{Unmatched}
use Rattle.matcher.specs.declared.matching.Unmatched.TheVariants.{Unfit, NotRead}
use Rattle.matcher.specs.Matching.{Fits, Fit, Outcome}

moved_fit : (a b n m bench report : ℕ) → a ≡ b → n ≡ m → Fits a n bench report → Fits b m bench report
moved_fit a b n m bench report e f h =
    let P : ℕ → Type 0 = λ x. Fits x n bench report in
    let Q : ℕ → Type 0 = λ x. Fits b x bench report in
    subst Q f (subst P e h)

as_it_was : (k : ℕ) (out report : Reading) → out ≡ take k report → out ++ drop k report ≡ report
as_it_was k out report e = ap (λ (x : Reading). x ++ drop k report) e ∙ take-append-drop k report

pub nothing_behind : (k : ℕ) (x out : Reading) → length out ≤ k → x ++ drop k out ≡ x
nothing_behind k x out l = ap (λ (r : Reading). x ++ r) (drop_all k out l) ∙ append-nil x

module _ (rs : List Row) (t : Tree) (e : Of rs t) (w : List Sight) (n : ℕ) (long : length w ≡ n) (bench : List ℕ) (report : Reading) where
  nodes : length rs ≡ size t
  nodes = ap length e ∙ length_rows t

  pub fit : Fits (length rs) n (length bench) (length report) → Fit t w bench report
  fit = moved_fit (length rs) (size t) n (length w) (length bench) (length report) nodes (sym long)

  pub unfit : (Fits (length rs) n (length bench) (length report) → ⊥) → Fit t w bench report → ⊥
  unfit f h = f (moved_fit (size t) (length rs) (length w) n (length bench) (length report) (sym nodes) long h)

  -- what is answered on the first entries of a report is answered on the report
  module _ (above : Order) (bench' : List ℕ) (out out' : Reading) (fits : Fits (length rs) n (length bench) (length report)) (front : out ≡ take (length rs) report) where
    front_long : length out ≡ size t
    front_long = ap length front ∙ omega (arith, length-take (length rs) report, fits.entries, nodes)

    pub in_report : (r : Result (Unit {0}) Unmatched) → Outcome above t w bench bench' out out' r → Outcome above t w bench bench' report (out' ++ drop (length rs) report) r
    in_report (Err Unfit) o = absurd (o.0 (record { short = (fit fits).short; cells = (fit fits).cells; entries = omega (arith, front_long) }))
    in_report (Err NotRead) o = (fit fits, o.1, as_it_was (length rs) out' report (o.2 ∙ front))
    in_report (Ok done) o = (fit fits, (o.1.0, o.1.1, ap (λ (x : Reading). x ++ drop (length rs) report) (o.1.2 ∙ nothing_behind (size t) o.1.0 out (omega (arith, front_long))) ∙ ap (λ k. o.1.0 ++ drop k report) nodes))
