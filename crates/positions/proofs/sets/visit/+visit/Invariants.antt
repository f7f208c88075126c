use Rattle.std.proofs.Common.{◌-◌, length}
use Rattle.positions.proofs.sets.visit.+visit.Given as goal

abbrev pub decreases-visit : goal.decreases-visit
decreases-visit l = length l.rows.now - l.node
