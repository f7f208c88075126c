use Rattle.std.proofs.Common.{vec_items, sym, ap, ◌∙◌, append-nil}
use Rattle.constraints.proofs.Said.{entry_added}
use Rattle.constraints.proofs.printing.reading_line.Goals as goal
use Rattle.constraints.proofs.printing.reading_line.Goals.{in-Some+in_ok-push_stretch, in_default}

pub loop-node-preserved : goal.loop-node-preserved
loop-node-preserved c =
    elim c.match-entry.branch [
      | in-Some+in_ok-push_stretch w ↦ entry_added _ _ _ _ _ _ c.loop-node-test.true c.loop-node.invariant w.in-Some.is (ap vec_items w.line-is ∙ w.in_ok-push_stretch.ensures)
      | in_default w ↦ entry_added _ _ _ _ _ _ c.loop-node-test.true c.loop-node.invariant w.in_default.is (ap vec_items w.line-is ∙ sym (append-nil (vec_items c.loop-node.line)))
    ]
