use Rattle.std.proofs.Common.{length}
use Rattle.std.proofs.lemmas.Result.{err_from_is_err_and}
use Rattle.sheet.specs.Questions.{room_met}
use Rattle.sheet.specs.Sheets.{held_rows, locked}
use Rattle.sheet.proofs.QuestionFacts.{denied_by, passed, held_ruled, sets_denied, sets_room, sets_served}
use Rattle.sheet.proofs.sheet.LockedSheet.sets_at.Goals as goal

pub returns-in_err-check_room : goal.returns-in_err-check_room
returns-in_err-check_room g c =
    let p = err_from_is_err_and c.from_residual-in_err-check_room.result c.from_residual-in_err-check_room.ensures.1 in
    let h = c.in_ok-check_place.field-0.now in
    let k = c.in_ok-check_place.ensures in
    let sets = c.sets-sets.result.now in
    rw (p.1, p.2) (sets_denied (locked c.args.self.now) c.args.place 0 c.args.masks.now _
    (sets_room (locked c.args.self.now) c.args.place (length c.args.masks.now) (held_rows h) sets k.0 k.1 (held_ruled h) c.sets-sets.ensures _ (denied_by (room_met sets.count (length c.args.masks.now)) _ c.in_err-check_room.ensures)))

pub returns : goal.returns
returns g c =
    let h = c.in_ok-check_place.field-0.now in
    let k = c.in_ok-check_place.ensures in
    let sets = c.sets-sets.result.now in
    let met = sets_room (locked c.args.self.now) c.args.place (length c.args.masks.now) (held_rows h) sets k.0 k.1 (held_ruled h) c.sets-sets.ensures _ (passed (room_met sets.count (length c.args.masks.now)) c.in_ok-check_room.ensures) in
    sets_served (locked c.args.self.now) c.args.place c.args.masks.now _ (held_rows h) sets met k.1 (held_ruled h) c.sets-sets.ensures c.copy_from_slice.ensures.after
