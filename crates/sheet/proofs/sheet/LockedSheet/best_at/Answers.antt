use Rattle.std.proofs.Common.{sym, refl, ◌∙◌}
use Rattle.rules.specs.Languages.{seen}
use Rattle.sheet.specs.Questions.{at}
use Rattle.sheet.specs.Sheets.{locked}
use Rattle.sheet.proofs.QuestionFacts.{held_ruled}
use Rattle.sheet.proofs.SpansFacts.{seen_met, all_fit, not_read, found, outside}
use Rattle.sheet.proofs.sheet.LockedSheet.best_at.Goals as goal

pub unreachable-requires : goal.unreachable-requires
unreachable-requires g c =
    let k = c.in_ok-held.ensures in
    let r = held_ruled c.in_ok-held.held.now in
    let rules = locked c.args.self.now in
    let holds = g.A.Alphabet.held c.args.self.now.kept.alphabet in
    ((rw c.in-Err-Unfit.field-0-is at c.in-Err-Unfit.ensures) r.tree (c.rule.ensures ∙ r.of)).0 (all_fit rules c.args.place r.tree (seen holds c.args.name.now) c.args.bench.now c.args.report.now (sym k.1 ∙ r.of) (seen_met holds c.args.name.now rules c.args.place _ _ _ k.0))

pub returns-in-Ok : goal.returns-in-Ok
returns-in-Ok g c =
    let k = c.in_ok-held.ensures in
    let r = held_ruled c.in_ok-held.held.now in
    let rules = locked c.args.self.now in
    let holds = g.A.Alphabet.held c.args.self.now.kept.alphabet in
    let out = (c.in-Ok.ensures r.tree (c.rule.ensures ∙ r.of)).1 in
    found (g.P.Policy.above c.args.self.now.kept.policy) (seen holds c.args.name.now) rules c.args.place c.args.bench.now c.args.report.now _ _ out.0 r.tree (seen_met holds c.args.name.now rules c.args.place _ _ _ k.0) (sym k.1 ∙ r.of) out.1 out.2

pub returns-in-Err-NotRead : goal.returns-in-Err-NotRead
returns-in-Err-NotRead g c =
    let k = c.in_ok-held.ensures in
    let r = held_ruled c.in_ok-held.held.now in
    let rules = locked c.args.self.now in
    let holds = g.A.Alphabet.held c.args.self.now.kept.alphabet in
    let w = seen holds c.args.name.now in
    let out = (rw c.in-Err-NotRead.field-0-is at c.in-Err-NotRead.ensures) r.tree (c.rule.ensures ∙ r.of) in
    rw out.2 (not_read (g.P.Policy.above c.args.self.now.kept.policy) w rules c.args.place c.args.bench.now c.args.report.now _ _ (seen_met holds c.args.name.now rules c.args.place _ _ _ k.0) refl (outside (at rules c.args.place) r.tree w (sym k.1 ∙ r.of) out.1))
