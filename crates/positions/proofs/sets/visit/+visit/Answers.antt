use Rattle.std.proofs.Common.{arith}
use Rattle.rules.specs.Trees.{row}
use Rattle.rules.specs.declared.kind.Kind.TheVariants.{Empty, Leaf, Choice, Sequence, Star}
use Rattle.rules.proofs.Nodes.{stands_inside, kind_known}
use Rattle.positions.proofs.Visiting.{some_part, two_parts, only_sequence, is_kind, leaf_room, placed_one, placed_two, visited_empty, visited_leaf, visited_star, visited_choice, visited_sequence}
use Rattle.positions.proofs.sets.visit.+visit.Goals as goal

pub overflow_add-next : goal.overflow_add-next
overflow_add-next t c = omega (arith, stands_inside c.args.rows.now c.args.node c.requires.tree c.requires.stands)

pub offset_bounds-rows-node : goal.offset_bounds-rows-node
offset_bounds-rows-node t c = omega (arith, stands_inside c.args.rows.now c.args.node c.requires.tree c.requires.stands)

pub bounds-rows-node : goal.bounds-rows-node
bounds-rows-node t c = stands_inside c.args.rows.now c.args.node c.requires.tree c.requires.stands

pub unreachable-requires : goal.unreachable-requires
unreachable-requires t c = kind_known c.args.rows.now c.args.node (row 0 0 0) c.requires.tree c.requires.stands c.in_default.ensures.1

pub leaf_part-requires : goal.leaf_part-requires
leaf_part-requires t c = leaf_room c.args.rows.now c.args.node c.args.leaf (row 0 0 0) (is_kind c.args.rows.now c.args.node c.args.leaf (row 0 0 0) c.in-Ok.kind Leaf c.in-Leaf.is c.in-Ok.ensures) c.requires

pub visit-one-requires : goal.visit-one-requires
visit-one-requires t c =
    let p = placed_one c.args.rows.now c.args.node c.args.leaf (row 0 0 0) c.in-Ok.kind (some_part c.in-Ok.kind c.in_default-kind.not-Empty c.in_default-kind.not-Leaf) c.in-Ok.ensures c.requires in
    (omega (arith, c.decreases, p.later, p.within), p.placed)

pub visit-two-requires : goal.visit-two-requires
visit-two-requires t c =
    let p = placed_two c.args.rows.now c.args.node c.args.leaf (row 0 0 0) c.in-Ok.kind (some_part c.in-Ok.kind c.in_default-kind.not-Empty c.in_default-kind.not-Leaf) (two_parts c.in-Ok.kind c.in_default-kind-2.not-Star) c.in-Ok.ensures c.args.follow.now _ _ c.visit-one.ensures c.requires in
    (omega (arith, c.decreases, p.later, p.within), p.placed)

pub returns-in-Empty : goal.returns-in-Empty
returns-in-Empty t c = visited_empty c.args.rows.now c.args.node c.args.leaf (row 0 0 0) c.args.follow.now _ (is_kind c.args.rows.now c.args.node c.args.leaf (row 0 0 0) c.in-Ok.kind Empty c.in-Empty.is c.in-Ok.ensures) c.empty_part.ensures

pub returns-in-Leaf : goal.returns-in-Leaf
returns-in-Leaf t c = visited_leaf c.args.rows.now c.args.node c.args.leaf (row 0 0 0) c.args.follow.now _ (is_kind c.args.rows.now c.args.node c.args.leaf (row 0 0 0) c.in-Ok.kind Leaf c.in-Leaf.is c.in-Ok.ensures) c.leaf_part.ensures

pub returns-in-Star : goal.returns-in-Star
returns-in-Star t c =
    visited_star c.args.rows.now c.args.node c.args.leaf (row 0 0 0) c.args.follow.now _ _ c.visit-one.ensures _ (is_kind c.args.rows.now c.args.node c.args.leaf (row 0 0 0) c.in-Ok.kind Star c.in-Star.is c.in-Ok.ensures) c.link.ensures

pub returns-in-Choice : goal.returns-in-Choice
returns-in-Choice t c =
    visited_choice c.args.rows.now c.args.node c.args.leaf (row 0 0 0) c.args.follow.now _ _ c.visit-one.ensures _ _ c.visit-two.ensures _ (is_kind c.args.rows.now c.args.node c.args.leaf (row 0 0 0) c.in-Ok.kind Choice c.in-Choice.is c.in-Ok.ensures) c.either.ensures

pub returns-in_default-kind-3 : goal.returns-in_default-kind-3
returns-in_default-kind-3 t c =
    let is = only_sequence c.in-Ok.kind (some_part c.in-Ok.kind c.in_default-kind.not-Empty c.in_default-kind.not-Leaf) (two_parts c.in-Ok.kind c.in_default-kind-2.not-Star) c.in_default-kind-3.not-Choice in
    visited_sequence c.args.rows.now c.args.node c.args.leaf (row 0 0 0) c.args.follow.now _ _ c.visit-one.ensures _ _ c.visit-two.ensures _ _ (is_kind c.args.rows.now c.args.node c.args.leaf (row 0 0 0) c.in-Ok.kind Sequence is c.in-Ok.ensures) c.both.ensures c.link-in_default-kind-3.ensures
