use Rattle.session.proofs.Turns.{again, done}
use Rattle.session.proofs.answers.serve.Goals as goal

pub loop-line-preserved : goal.loop-line-preserved
loop-line-preserved c = again c.loop-line.invariant c.in-Some.ensures.steps c.in_ok-state.ensures

pub returns : goal.returns
returns c = done c.loop-line.invariant c.in-None.ensures.steps.0
