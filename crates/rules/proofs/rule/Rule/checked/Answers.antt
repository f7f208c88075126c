use Rattle.std.proofs.Common.{◌∙◌}
use Rattle.std.proofs.lemmas.Result.{err_from_is_err_and}
use Rattle.rules.proofs.CheckFacts.{none_met, many_met, rows_met, front_kept}
use Rattle.rules.proofs.Shapes.{the_tree_of}
use Rattle.rules.proofs.rule.Rule.checked.Goals as goal
use Rattle.rules.proofs.rule.Rule.checked.Goals.{then-len-eq0-via-then-len-eq0, then-len-eq0-via-else-len-eq0+then-len-gt64}

pub returns-in_err-check_rows : goal.returns-in_err-check_rows
returns-in_err-check_rows g c =
    let p = err_from_is_err_and c.from_residual.result c.from_residual.ensures.1 in
    rw (p.1, p.2) (rows_met (g.A.Alphabet.admitted c.args.alphabet.now) c.args.rows.now c.if-len-eq0.false c.if-len-gt64.false ∙ c.in_err-check_rows.ensures)

pub returns-then-len-eq0 : goal.returns-then-len-eq0
returns-then-len-eq0 g c = elim c.then-len-eq0.branch [
  | then-len-eq0-via-then-len-eq0 w ↦ none_met (g.A.Alphabet.admitted c.args.alphabet.now) c.args.rows.now w.if-len-eq0.true
  | then-len-eq0-via-else-len-eq0+then-len-gt64 w ↦ many_met (g.A.Alphabet.admitted c.args.alphabet.now) c.args.rows.now w.if-len-gt64.true
]

pub invariant_of-result : goal.invariant_of-result
invariant_of-result g c =
    let t = the_tree_of (g.A.Alphabet.admitted c.args.alphabet.now) c.args.rows.now c.in_ok-check_rows.ensures in
    record { few = c.if-len-gt64.false; tree = ∣ (t.0, front_kept c.args.rows.now _ _ c.copy_from_slice.ensures.after ∙ t.1) ∣₁ }

pub returns : goal.returns
returns g c = (
  rows_met (g.A.Alphabet.admitted c.args.alphabet.now) c.args.rows.now c.if-len-eq0.false c.if-len-gt64.false ∙ c.in_ok-check_rows.ensures,
  front_kept c.args.rows.now _ _ c.copy_from_slice.ensures.after,
)
