use Rattle.std.proofs.Common.{get_or, ◌∙◌, arith}
use Rattle.std.proofs.lemmas.Result.{err_from_is_err_and}
use Rattle.std.proofs.lemmas.Bool.{eq-eqb, ne_eqb, cond-true, cond-false}
use Rattle.rules.specs.Trees.{row}
use Rattle.rules.proofs.CheckFacts.{parts_few, row_stops, row_passes, rows_end}
use Rattle.rules.proofs.rule.checked.check_rows.Goals as goal

pub loop-row-preserved : goal.loop-row-preserved
loop-row-preserved g c =
    let few = parts_few (get_or c.args.rows.now c.loop-row.row-index (row 0 0 0)).kind in
    let n = c.in_ok-count.ensures.1 in
    (omega arith, omega (arith, few, n), row_passes (g.A.Alphabet.admitted c.args.alphabet.now) c.loop-row.count c.args.rows.now c.loop-row.row-index (row 0 0 0) _ c.loop-row.invariant.2 _ c.loop-row-test.true c.in_ok-count.ensures.0 n)

pub returns-in_err-count : goal.returns-in_err-count
returns-in_err-count g c =
    let p = err_from_is_err_and c.from_residual.result c.from_residual.ensures.1 in
    rw (p.1, p.2) (row_stops (g.A.Alphabet.admitted c.args.alphabet.now) c.loop-row.count c.args.rows.now c.loop-row.row-index (row 0 0 0) _ c.loop-row.invariant.2 _ c.loop-row-test.true c.in_err-count.ensures)

pub returns-then-count-ne0 : goal.returns-then-count-ne0
returns-then-count-ne0 g c =
    rows_end (g.A.Alphabet.admitted c.args.alphabet.now) c.loop-row.count c.args.rows.now c.loop-row.row-index (row 0 0 0) _ c.loop-row.invariant.2 c.loop-row-test.false
    ∙ cond-false _ _ _ (ne_eqb _ 0 c.if-count-ne0.true)

pub returns : goal.returns
returns g c =
    rows_end (g.A.Alphabet.admitted c.args.alphabet.now) c.loop-row.count c.args.rows.now c.loop-row.row-index (row 0 0 0) _ c.loop-row.invariant.2 c.loop-row-test.false
    ∙ cond-true _ _ _ (eq-eqb _ 0 c.if-count-ne0.false)
