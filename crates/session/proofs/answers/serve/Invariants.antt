use Rattle.std.proofs.Common.{take, vec_items}
use Rattle.session.specs.Lines.{lines}
use Rattle.session.proofs.Turns.{Goes_on}
use Rattle.session.proofs.answers.serve.Given as goal

abbrev pub invariant-loop-line : goal.invariant-loop-line
invariant-loop-line l = Goes_on (lines (take 65536 l.fn.input)) l.state (lines l.line-iterator.rest.now) (vec_items l.out)
