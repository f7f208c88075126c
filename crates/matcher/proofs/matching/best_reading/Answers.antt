use Rattle.std.proofs.Common.{length, take, refl, ◌∙◌}
use Rattle.std.proofs.lemmas.List.{length-map}
use Rattle.rules.specs.Languages.{seen, Sight}
use Rattle.matcher.proofs.Outcomes.{unfit, in_report}
use Rattle.matcher.proofs.matching.best_reading.Goals as goal

pub returns-then-not-fits : goal.returns-then-not-fits
returns-then-not-fits g c = λ t e. (unfit c.rows-nodes.result.now t (c.rows-nodes.ensures.value ∙ e) (seen (g.A.Alphabet.held c.args.alphabet.now) c.args.name.now) (length c.args.name.now) (length-map {B = Sight} c.args.name.now (λ s lo hi. g.A.Alphabet.held c.args.alphabet.now lo hi s)) c.args.bench.now c.args.report.now (c.fits.ensures.no c.if-not-fits.true), refl, refl)

pub returns : goal.returns
returns g c = λ t e. in_report c.rows-nodes.result.now t (c.rows-nodes.ensures.value ∙ e) (seen (g.A.Alphabet.held c.args.alphabet.now) c.args.name.now) (length c.args.name.now) (length-map {B = Sight} c.args.name.now (λ s lo hi. g.A.Alphabet.held c.args.alphabet.now lo hi s)) c.args.bench.now c.args.report.now (g.P.Policy.above c.args.policy.now) c.read_whole.new.bench (take (length c.rows-nodes.result.now) c.args.report.now) c.read_whole.new.out (c.fits.ensures.yes c.if-not-fits.false) refl c.read_whole.result (c.read_whole.ensures t (c.new.ensures.rows ∙ e))
