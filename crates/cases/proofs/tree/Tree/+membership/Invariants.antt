use Rattle.std.proofs.Common.{◌+◌, ◌-◌, ◌*◌, ◌<◌, ◌≤◌, ℕ, max, length, take, drop}
use Rattle.cases.specs.Names.{Has}
use Rattle.cases.specs.Sizes.{size}
use Rattle.cases.proofs.tree.Tree.+membership.Given as goal

abbrev pub decreases-has : goal.decreases-has
decreases-has l = (size l.self.now + length l.word.now) * 2 + 1

abbrev pub decreases-has_before : goal.decreases-has_before
decreases-has_before l = max (size l.self.now + length l.word.now) (size l.next.now + (length l.word.now - l.least)) * 2 + 2

abbrev pub invariant-has_before-loop-k : goal.invariant-has_before-loop-k
invariant-has_before-loop-k l = (j : ℕ) → l.initial.least ≤ j → j < l.k → Has l.self (take j l.word) → Has l.next (drop j l.word) → ⊥
