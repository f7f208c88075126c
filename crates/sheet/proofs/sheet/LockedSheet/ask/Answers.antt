use Rattle.std.proofs.Common.{sym, ap, ◌∙◌}
use Rattle.sheet.specs.Histories.{govern}
use Rattle.sheet.specs.Replays.{asked}
use Rattle.sheet.specs.Sheets.{locked}
use Rattle.sheet.proofs.Asking.{asked_as}
use Rattle.sheet.proofs.Tellings.{govern_tells}
use Rattle.sheet.proofs.sheet.LockedSheet.ask.Goals as goal

pub returns-in-Govern : goal.returns-in-Govern
returns-in-Govern g c =
    let holds = g.A.Alphabet.held c.args.self.now.kept.alphabet in
    let above = g.P.Policy.above c.args.self.now.kept.policy in
    let rules = locked c.args.self.now in
    let h = govern_tells holds above rules c.deref-in-Govern.result.now c.govern.result c.govern.ensures.answer in
    record { answered = asked_as holds above rules _ _ _ (ap govern c.deref-in-Govern.ensures.value ∙ ap asked (sym c.in-Govern.is)) h }
