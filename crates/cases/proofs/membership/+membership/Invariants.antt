use Rattle.std.proofs.Common.{ℕ, ◌+◌, ◌-◌, ◌*◌, ◌<◌, ◌≤◌, max, length, take, drop}
use Rattle.rules.specs.Trees.{Tree, Of}
use Rattle.cases.specs.Names.{IsName}
use Rattle.cases.proofs.membership.+membership.Given as goal

abbrev pub decreases-member : goal.decreases-member
decreases-member l = (length l.rows.now + length l.word.now) * 2 + 1

abbrev pub decreases-member_before : goal.decreases-member_before
decreases-member_before l = max (length l.first.now + length l.word.now) (length l.second.now + (length l.word.now - l.least)) * 2 + 2

abbrev pub invariant-member_before-loop-k : goal.invariant-member_before-loop-k
invariant-member_before-loop-k l = (p q : Tree) → Of l.first p → Of l.second q → (j : ℕ) → l.initial.least ≤ j → j < l.k → IsName p (take j l.word) → IsName q (drop j l.word) → ⊥
