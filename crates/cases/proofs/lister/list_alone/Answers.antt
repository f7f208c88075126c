use Rattle.std.proofs.Common.{◌<◌, length, None, ap, ◌∙◌, arith}
use Rattle.std.proofs.lemmas.List.{length-replicate}
use Rattle.cases.specs.declared.tree.Tree.{Tree}
use Rattle.cases.specs.declared.tree.Tree.TheVariants.{Empty, Leaf, Choice', Sequence', Star'}
use Rattle.cases.specs.Sizes.{size}
use Rattle.cases.proofs.lister.list_alone.Goals as goal

-- a tree has a node
a_node : (t : Tree) → 0 < size t
a_node Empty = omega arith
a_node (Leaf lo hi) = omega arith
a_node (Choice' p first q second) = omega arith
a_node (Sequence' p first q second) = omega arith
a_node (Star' p part) = omega arith

pub index_mut-requires : goal.index_mut-requires
index_mut-requires c =
    let t = c.args.tree.now in
    omega (arith, a_node t, c.in_ok-reading.reading.ok.0, ap length c.in_ok-reading.ensures ∙ length-replicate (size t) None)
