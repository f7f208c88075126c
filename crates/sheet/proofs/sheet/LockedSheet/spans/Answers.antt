use Rattle.rules.specs.Languages.{seen}
use Rattle.policies.proofs.FirstOrder.{first_prefers}
use Rattle.policies.proofs.PosixOrder.{posix_prefers}
use Rattle.policies.specs.FirstLongest.{First}
use Rattle.policies.specs.Keys.{first_above, posix_above}
use Rattle.policies.specs.Posix.{Posix}
use Rattle.sheet.specs.Sheets.{locked}
use Rattle.sheet.proofs.Lawful.{lawful_here}
use Rattle.sheet.proofs.Tellings.{spans_tells, published_by}
use Rattle.sheet.proofs.sheet.LockedSheet.spans.Goals as goal

pub returns : goal.returns
returns g c =
    let holds = g.A.Alphabet.held c.args.self.now.kept.alphabet in
    let above = g.P.Policy.above c.args.self.now.kept.policy in
    let rules = locked c.args.self.now in
    let h = c.best_at.ensures in
    record {
      answer = h;
      posix = λ e m. published_by above posix_above Posix posix_prefers e (seen holds c.args.name.now) rules c.args.place _ _ _ _ c.best_at.result h m;
      first = λ e m. published_by above first_above First first_prefers e (seen holds c.args.name.now) rules c.args.place _ _ _ _ c.best_at.result h m;
      law = λ past e. lawful_here (g.A.Alphabet.admitted c.args.self.now.kept.alphabet) holds above past rules e _ _ (spans_tells holds above rules c.args.place c.args.name.now _ _ _ _ c.best_at.result h) (g.met.P.Policy.decided c.args.self.now.kept.policy);
    }
