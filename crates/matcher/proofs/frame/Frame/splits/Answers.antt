use Rattle.std.proofs.Common.{sym}
use Rattle.matcher.specs.Frames.{frame_rows}
use Rattle.matcher.proofs.Reaches.{first_empty, second_empty, first_none, first_leaf, second_none, second_leaf}
use Rattle.matcher.proofs.frame.Frame.splits.Goals as goal

pub returns-in-Empty : goal.returns-in-Empty
returns-in-Empty c = first_empty (frame_rows c.args.self.now) c.args.first.node c.args.second c.args.first.start c.args.first.end c.requires.order (sym c.in-Empty.ensures)

pub returns-in-Empty-kind : goal.returns-in-Empty-kind
returns-in-Empty-kind c = second_empty (frame_rows c.args.self.now) c.args.first.node c.args.second c.args.first.start c.args.first.end c.requires.order (sym c.in-Empty-kind.ensures)

pub returns-in_default : goal.returns-in_default
returns-in_default c = first_none (frame_rows c.args.self.now) c.args.first.node c.args.second c.args.first.start c.args.first.end c.requires.order (sym c.in-Leaf.ensures) c.if-start-end.true

pub returns-in_default-2 : goal.returns-in_default-2
returns-in_default-2 c = first_leaf (frame_rows c.args.self.now) c.args.first.node c.args.second c.args.first.start c.args.first.end c.requires.order (sym c.in-Leaf.ensures) c.if-start-end.false

pub returns-in-Empty-kind-2 : goal.returns-in-Empty-kind-2
returns-in-Empty-kind-2 c = second_empty (frame_rows c.args.self.now) c.args.first.node c.args.second c.args.first.start c.args.first.end c.requires.order (sym c.in-Empty-kind-2.ensures)

pub returns-in-Leaf-kind : goal.returns-in-Leaf-kind
returns-in-Leaf-kind c = second_none (frame_rows c.args.self.now) c.args.first.node c.args.second c.args.first.start c.args.first.end c.requires.order (sym c.in-Leaf-kind.ensures) c.if-start-end-2.true

pub returns-in-Leaf-2 : goal.returns-in-Leaf-2
returns-in-Leaf-2 c = second_leaf (frame_rows c.args.self.now) c.args.first.node c.args.second c.args.first.start c.args.first.end c.requires.order (sym c.in-Leaf-2.ensures) c.if-start-end-2.false
