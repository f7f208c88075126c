use Rattle.std.proofs.Common.{ap, ◌∙◌}
use Rattle.session.specs.declared.lines.Lines.{Lines}
use Rattle.constraints.proofs.Turns.{begin, again, done}
use Rattle.constraints.proofs.answers.serve.Goals as goal

pub loop-line-init : goal.loop-line-init
loop-line-init c =
    let rest = ap (λ (x : Lines). x.rest.now) c.into_iter-line-iterator.ensures.into_iter_gives ∙ c.served_lines-line-items.ensures in
    begin rest c.new-out.ensures.items c.in_ok-bench.ensures.len c.in_ok-sheet.ensures.0 c.in_ok-sheet.ensures.1

pub loop-line-preserved : goal.loop-line-preserved
loop-line-preserved c = again c.loop-line.invariant c.in-Some.ensures.steps c.deref_mut.ensures.len c.in_ok-state.ensures

pub returns : goal.returns
returns c = done c.loop-line.invariant c.in-None.ensures.steps.0
