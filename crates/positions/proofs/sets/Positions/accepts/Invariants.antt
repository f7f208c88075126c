use Rattle.std.proofs.Common.{◌≡◌, drop}
use Rattle.rules.specs.Languages.{seen}
use Rattle.rules.specs.Trees.{Tree}
use Rattle.positions.specs.SetsOf.{SetsOf}
use Rattle.positions.specs.Steps.{reach}
use Rattle.positions.proofs.sets.Positions.accepts.Given as goal

abbrev pub invariant-loop-symbol : goal.invariant-loop-symbol
invariant-loop-symbol g l =
    (t : Tree) → SetsOf t l.self
    → reach t l.set (drop l.symbol-index (seen (g.A.Alphabet.held l.alphabet) l.rest)) ≡ reach t l.initial.set (seen (g.A.Alphabet.held l.alphabet) l.rest)
