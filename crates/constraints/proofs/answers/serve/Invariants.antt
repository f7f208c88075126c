use Rattle.std.proofs.Common.{take, vec_items, vec_len}
use Rattle.sheet.specs.Sheets.{locked}
use Rattle.session.specs.Lines.{lines}
use Rattle.constraints.proofs.Turns.{Goes_on}
use Rattle.constraints.proofs.answers.serve.Given as goal

abbrev pub invariant-loop-line : goal.invariant-loop-line
invariant-loop-line l = Goes_on (lines (take 65536 l.fn.input)) l.state l.sheet.kept.policy (locked l.sheet) (lines l.line-iterator.rest.now) (vec_len l.bench) (vec_items l.out)
