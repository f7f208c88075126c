use Rattle.std.proofs.Common.{◌≤◌, length, ap, ◌∙◌, arith}
use Rattle.rules.proofs.RowFacts.{length_rows}
use Rattle.sheet.proofs.LockedRules.{locked_ruled}
use Rattle.sheet.specs.Questions.{at}
use Rattle.sheet.specs.Sheets.{locked}
use Rattle.constraints.proofs.NameAnswered.{not_spanned, says_reading, says_denial}
use Rattle.constraints.proofs.naming.serve_reading.Goals as goal

pub returns-in-Ok : goal.returns-in-Ok
returns-in-Ok c =
    let r = locked_ruled c.args.sheet.now c.args.place c.requires.lowest.held in
    let room : length (at (locked c.args.sheet.now) c.args.place) ≤ 64 = omega (arith, ap length r.of ∙ length_rows r.tree, r.few) in
    says_reading _ _ _ _ _ _ 64 _ c.requires.short c.requires.lowest room _ _ c.print_reading.result c.in-Ok.ensures.answer c.print_reading.ensures

pub returns-in-Err : goal.returns-in-Err
returns-in-Err c =
    let r = locked_ruled c.args.sheet.now c.args.place c.requires.lowest.held in
    let room : length (at (locked c.args.sheet.now) c.args.place) ≤ 64 = omega (arith, ap length r.of ∙ length_rows r.tree, r.few) in
    says_denial _ _ _ _ _ _ _ c.print_refusal.result (not_spanned _ _ _ _ _ _ 64 _ c.requires.short c.requires.lowest room _ c.in-Err.ensures.answer) c.print_refusal.ensures
