use Rattle.std.proofs.Common.{◌≡◌, ◌+◌, ◌<◌, ◌≤◌, drop}
use Rattle.cases.specs.Sizes.{rows_taken}
use Rattle.cases.proofs.membership.tree_len.Given as goal

abbrev pub invariant-loop-at : goal.invariant-loop-at
invariant-loop-at l = record {
  live : 0 < l.«open»;
  few : l.«open» ≤ l.at + 1;
  taken : l.at + rows_taken l.«open» (drop l.at l.rows) ≡ rows_taken 1 l.rows;
}
