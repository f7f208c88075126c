use Rattle.std.proofs.Common.{get_or, take}
use Rattle.matcher.specs.Leaders.{best_code, BestShown}
use Rattle.matcher.specs.Searches.{word, BestBelowAt}
use Rattle.matcher.proofs.Turns.{Left}
use Rattle.matcher.proofs.search.Search.best_split.Given as goal

abbrev pub invariant-loop-k : goal.invariant-loop-k
invariant-loop-k g l =
    Left l.initial.k-iterator l.k-iterator
    × BestBelowAt (g.P.Policy.above l.self.policy.now) l.self.frame (word l.self) l.bench l.fn.spot l.k-iterator.start (best_code l.best)
    × BestShown l.self.frame l.bench l.fn.spot l.best (take (get_or l.self.frame.sizes l.fn.spot.node 0) l.pad.best)
