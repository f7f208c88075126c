use Rattle.std.proofs.Common.{◌+◌, ◌*◌}
use Rattle.cases.specs.Sizes.{size, EachHas}
use Rattle.cases.proofs.lister.+listing.Given as goal

abbrev pub decreases-list : goal.decreases-list
decreases-list l = size l.tree.now * 2

abbrev pub decreases-list_sequence : goal.decreases-list_sequence
decreases-list_sequence l = (size l.first.now + size l.second.now) * 2 + 1

abbrev pub invariant-list_sequence-loop-at : goal.invariant-list_sequence-loop-at
invariant-list_sequence-loop-at l = EachHas (1 + size l.first + size l.second) l.found.all.items
