use Rattle.std.proofs.Common.{◌≡◌, true, map, drop}
use Rattle.sheet.specs.Histories.{leads_locked}
use Rattle.sheet.specs.Replays.{meant}
use Rattle.sheet.proofs.history.replay.lead_locked.Given as goal

abbrev pub invariant-loop-call : goal.invariant-loop-call
invariant-loop-call g l = leads_locked l.«open» (map meant (drop l.call-index l.calls)) ≡ leads_locked true (map meant l.calls)
