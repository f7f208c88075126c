use Rattle.sheet.proofs.Turns.{SoFar}
use Rattle.sheet.proofs.history.replay.run.Given as goal

abbrev pub invariant-loop-call : goal.invariant-loop-call
invariant-loop-call g l = SoFar g.A.Alphabet.admitted l.initial.state l.state l.initial.calls l.calls l.call-index
