use Rattle.sheet.specs.Sheets.{locked}
use Rattle.sheet.proofs.Lawful.{lawful_here}
use Rattle.sheet.proofs.Tellings.{sets_tells}
use Rattle.sheet.proofs.sheet.LockedSheet.sets.Goals as goal

pub returns : goal.returns
returns g c =
    let holds = g.A.Alphabet.held c.args.self.now.kept.alphabet in
    let above = g.P.Policy.above c.args.self.now.kept.policy in
    let rules = locked c.args.self.now in
    record {
      answer = c.sets_at.ensures;
      law = λ past e. lawful_here (g.A.Alphabet.admitted c.args.self.now.kept.alphabet) holds above past rules e _ _ (sets_tells holds above rules c.args.place _ _ c.sets_at.result c.sets_at.ensures) (g.met.P.Policy.decided c.args.self.now.kept.policy);
    }
