use Rattle.std.proofs.Common.{◌≡◌, ◌<◌, length}
use Rattle.cases.proofs.Picks.{Kept, First}
use Rattle.cases.proofs.pick.best.Given as goal

abbrev pub invariant-loop-at : goal.invariant-loop-at
invariant-loop-at l = record {
  within : l.best < l.at;
  none : length l.all ≡ 0 → l.best ≡ 0;
  kept : Kept l.opposite l.keys l.rows l.all l.at l.best;
  first : First l.opposite l.keys l.rows l.all l.best;
}
