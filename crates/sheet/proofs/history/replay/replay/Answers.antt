use Rattle.std.proofs.Common.{map, sym, ◌∙◌}
use Rattle.sheet.specs.Replays.{asked, meant}
use Rattle.sheet.specs.Sheets.{holding, locked}
use Rattle.sheet.proofs.Lawful.{lawful_after}
use Rattle.sheet.proofs.history.replay.replay.Goals as goal

pub returns : goal.returns
returns g c = (
  sym c.lead_locked.ensures ∙ c.if-not-lead_locked.false,
  c.run-sheet.ensures.alphabet,
  c.run-sheet.ensures.policy,
  c.run-sheet.ensures.rules,
  λ e. lawful_after g.A.Alphabet.admitted g.A.Alphabet.held g.P.Policy.above g.met.P.Policy.decided c.args.sheet.kept.alphabet c.run-sheet.result.kept.alphabet c.args.sheet.kept.policy c.run-sheet.result.kept.policy (map meant c.args.calls.now) (holding c.args.sheet) (locked c.run-sheet.result) c.run-sheet.ensures.alphabet c.run-sheet.ensures.policy c.run-sheet.ensures.rules e (asked c.args.question.now) _ c.ask-answer.ensures.answered,
)
