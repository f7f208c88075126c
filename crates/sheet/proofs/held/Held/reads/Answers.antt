use Rattle.rules.specs.Languages.{seen}
use Rattle.sheet.specs.Sheets.{held_rows}
use Rattle.sheet.proofs.HeldFacts.{sets_held}
use Rattle.sheet.proofs.QuestionFacts.{held_ruled, test_yes, test_no}
use Rattle.sheet.proofs.held.Held.reads.Goals as goal

pub returns : goal.returns
returns g c =
    let h = c.args.self.now in
    let w = seen (g.A.Alphabet.held c.args.alphabet.now) c.args.name.now in
    record {
      yes = test_yes (held_rows h) w c.accepts.result (held_ruled h) (λ t o. c.accepts.ensures t (sets_held h t o));
      no = test_no (held_rows h) w c.accepts.result (λ t o. c.accepts.ensures t (sets_held h t o));
    }
