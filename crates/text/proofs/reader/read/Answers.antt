use Rattle.std.proofs.Common.{◌≡◌, List, ◌++◌, length, take, drop, sym, refl, ap, ◌∙◌, arith}
use Rattle.rules.specs.Trees.{rows}
use Rattle.rules.specs.declared.row.Row.{Row}
use Rattle.std.proofs.lemmas.Result.{err_from_is_err_and}
use Rattle.text.specs.Reading.{too_long, not_derived, too_many_rows, no_room}
use Rattle.text.proofs.Whole.{none_read, cut_short, all_read, all_counted, all_written, from_start}
use Rattle.text.proofs.reader.read.Goals as goal

pub returns-then-text-gt200 : goal.returns-then-text-gt200
returns-then-text-gt200 c = (refl, too_long (omega arith))

pub returns-in_err-text : goal.returns-in_err-text
returns-in_err-text c =
    let p = err_from_is_err_and c.from_residual.result c.from_residual.ensures.1 in
    let h = c.in_err-text.ensures in
    let n = c.new-reader.ensures in
    rw (p.1, p.2, h.0) (refl, not_derived (omega arith) (none_read n.text n.start.0 h.1))

pub returns-then-reader-text : goal.returns-then-reader-text
returns-then-reader-text c =
    let n = c.new-reader.ensures in
    (refl, not_derived (omega arith) (cut_short (from_start n.text n.start.0 n.start.1 c.in_ok-text.ensures.reaches) (omega arith)))

pub returns-then-count-gt64 : goal.returns-then-count-gt64
returns-then-count-gt64 c =
    let n = c.new-reader.ensures in
    let r = from_start n.text n.start.0 n.start.1 c.in_ok-text.ensures.reaches in
    (refl, too_many_rows (omega arith) r.tree (all_read r (omega arith)) (omega (arith, all_counted r)))

pub returns-then-count-rows : goal.returns-then-count-rows
returns-then-count-rows c =
    let n = c.new-reader.ensures in
    let r = from_start n.text n.start.0 n.start.1 c.in_ok-text.ensures.reaches in
    (refl, no_room (omega arith) r.tree (all_read r (omega arith)) (omega (arith, all_counted r)) (omega (arith, all_counted r)))

pub returns : goal.returns
returns c =
    let n = c.new-reader.ensures in
    let r = from_start n.text n.start.0 n.start.1 c.in_ok-text.ensures.reaches in
    let w = c.written.ensures in
    let e : take c.text.new.self.count c.text.new.self.rows ≡ rows r.tree = all_written r (omega arith) (ap length (sym w.rows) ∙ w.long) in
    record { short = omega arith; tree = r.tree; derived = all_read r (omega arith); counted = all_counted r; few = omega arith; room = omega arith; written = ap (λ (v : List Row). v ++ drop c.text.new.self.count c.args.rows.now) (c.copy_from_slice.ensures.after ∙ w.rows ∙ e) }
