use Rattle.positions.specs.SetsOf.{kept_leaves}
use Rattle.positions.proofs.Loops.{HoldersLeft}
use Rattle.positions.proofs.sets.Positions.holders.Given as goal

abbrev pub invariant-loop-p : goal.invariant-loop-p
invariant-loop-p g l =
    (goal.iterator-loop-p g).can_next l.p-iterator × (goal.iterator-loop-p g).is_finite l.p-iterator
    × HoldersLeft (kept_leaves l.self) (λ lo hi. g.A.Alphabet.held l.alphabet lo hi l.symbol) l.set l.held l.p-iterator.0
