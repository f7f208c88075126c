use Rattle.std.proofs.Common.{◌≡◌, length, map, reverse, sum_by}
use Rattle.cases.specs.Sizes.{size}
use Rattle.cases.proofs.Stacks.{Stood}
use Rattle.cases.proofs.tree.Tree.of.Given as goal

abbrev pub invariant-loop-row : goal.invariant-loop-row
invariant-loop-row l = record {
  sizes : sum_by size l.parts.items ≡ length l.yielded;
  stood : Stood (reverse (map (λ r. r.now) l.yielded)) l.parts.items;
}
