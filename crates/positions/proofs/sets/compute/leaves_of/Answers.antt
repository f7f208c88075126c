use Rattle.std.proofs.Common.{◌+◌, ◌<◌, get_or, set, refl, ap, ◌∙◌, arith}
use Rattle.rules.specs.Trees.{row}
use Rattle.positions.proofs.Gathering.{some_leaf, no_leaf, gathered_room, gathered_leaf, gathered_other, gathered_as, gathered_all}
use Rattle.positions.proofs.sets.compute.leaves_of.Goals as goal
use Rattle.positions.proofs.sets.compute.leaves_of.Goals.{in-Some, in_default}

room : (c : goal.In-Some) → c.loop-row.count < 32
room c = gathered_room c.args.rows.now c.loop-row.row-index c.loop-row.count c.loop-row.leaves (row 0 0 0) c.loop-row-test.true c.requires (some_leaf _ c.in-Some.leaf c.in-Some.ensures).0 c.loop-row.invariant

pub offset_bounds-leaves-count : goal.offset_bounds-leaves-count
offset_bounds-leaves-count c = omega (arith, room c)

pub bounds-leaves-count : goal.bounds-leaves-count
bounds-leaves-count c = room c

pub overflow_add-count : goal.overflow_add-count
overflow_add-count c = omega (arith, room c)

pub loop-row-preserved : goal.loop-row-preserved
loop-row-preserved c =
    let rs = c.args.rows.now in
    let i = c.loop-row.row-index in
    let count = c.loop-row.count in
    let ls = c.loop-row.leaves in
    let r = get_or rs i (row 0 0 0) in
    elim c.match-leaf_of_row.branch [
      | in-Some w ↦
          let is = some_leaf r w.in-Some.leaf w.in-Some.ensures in
          let lt = gathered_room rs i count ls (row 0 0 0) c.loop-row-test.true c.requires is.0 c.loop-row.invariant in
          gathered_as rs (i + 1) (count + 1) c.match-leaf_of_row.count (set ls count (r.lo, r.hi)) c.match-leaf_of_row.leaves w.count-is (w.leaves-is ∙ ap (set ls count) is.1)
          (gathered_leaf rs i count ls (set ls count (r.lo, r.hi)) (row 0 0 0) c.loop-row-test.true lt is.0 refl c.loop-row.invariant)
      | in_default w ↦
          gathered_as rs (i + 1) count c.match-leaf_of_row.count ls c.match-leaf_of_row.leaves w.count-is w.leaves-is
          (gathered_other rs i count ls (row 0 0 0) c.loop-row-test.true (no_leaf r w.in_default.ensures) c.loop-row.invariant)
    ]

pub returns : goal.returns
returns c = gathered_all c.args.rows.now c.loop-row.row-index c.loop-row.count c.loop-row.leaves c.loop-row-test.false c.loop-row.invariant
