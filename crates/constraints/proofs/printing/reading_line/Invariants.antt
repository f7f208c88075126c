use Rattle.std.proofs.Common.{◌≡◌, ◌++◌, take, vec_items}
use Rattle.constraints.specs.Printed.{entries_said}
use Rattle.constraints.proofs.printing.reading_line.Given as goal

abbrev pub invariant-loop-node : goal.invariant-loop-node
invariant-loop-node l = vec_items l.line ≡ vec_items l.initial.line ++ entries_said 0 (take l.node l.reading)
