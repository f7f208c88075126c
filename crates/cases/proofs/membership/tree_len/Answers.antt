use Rattle.std.proofs.Common.{◌+◌, ◌-◌, drop, arith}
use Rattle.std.proofs.lemmas.List.{at_drop_all}
use Rattle.rules.specs.Trees.{row}
use Rattle.cases.specs.Sizes.{rows_taken}
use Rattle.cases.proofs.Rows.{row_taken, none_taken, tree_taken}
use Rattle.cases.proofs.membership.tree_len.Goals as goal
use Rattle.cases.proofs.membership.tree_len.Goals.{Then-open-eq0, Else-open-eq0, After-loop-at}

pub loop-at-preserved : goal.loop-at-preserved
loop-at-preserved c =
    let n = c.loop-at.«open» in
    let next = row_taken c.args.rows.now c.loop-at.at n (n - 1 + c.parts_of.result) (row 0 0 0) c.loop-at-test.true c.loop-at.invariant.live (omega (arith, c.parts_of.ensures.value)) in
    record { live = omega arith; few = omega arith; taken = omega (arith, next, c.loop-at.invariant.taken) }

-- a row that ends the tree
pub returns-then-open-eq0-clause-taken : goal.returns-then-open-eq0-clause-taken
returns-then-open-eq0-clause-taken c =
    let next = row_taken c.args.rows.now c.loop-at.at c.loop-at.«open» 0 (row 0 0 0) c.loop-at-test.true c.loop-at.invariant.live (omega (arith, c.parts_of.ensures.value)) in
    omega (arith, next, c.loop-at.invariant.taken, none_taken (drop (c.loop-at.at + 1) c.args.rows.now))

pub returns-then-open-eq0-clause-tree : goal.returns-then-open-eq0-clause-tree
returns-then-open-eq0-clause-tree c t rest e = omega (arith, returns-then-open-eq0-clause-taken c, tree_taken c.args.rows.now t rest e)

pub returns-clause-taken : goal.returns-clause-taken
returns-clause-taken c = omega (arith, c.loop-at.invariant.taken, at_drop_all (rows_taken c.loop-at.«open») c.args.rows.now c.loop-at.at c.loop-at-test.false)

pub returns-clause-tree : goal.returns-clause-tree
returns-clause-tree c t rest e = omega (arith, returns-clause-taken c, tree_taken c.args.rows.now t rest e)
