use Rattle.std.proofs.Common.{length, None}
use Rattle.sheet.specs.Questions.{name_met}
use Rattle.sheet.specs.Sheets.{locked}
use Rattle.sheet.proofs.QuestionFacts.{passed, govern_by}
use Rattle.sheet.proofs.sheet.LockedSheet.lowest.Goals as goal

pub returns-in-Some : goal.returns-in-Some
returns-in-Some g c = govern_by (g.A.Alphabet.held c.args.self.now.kept.alphabet) c.args.name.now (locked c.args.self.now) _ None (passed (name_met (length c.args.name.now)) c.in_ok-check_name.ensures) c.in-Some.ensures

pub returns-in-None : goal.returns-in-None
returns-in-None g c = govern_by (g.A.Alphabet.held c.args.self.now.kept.alphabet) c.args.name.now (locked c.args.self.now) _ None (passed (name_met (length c.args.name.now)) c.in_ok-check_name.ensures) c.in-None.ensures
