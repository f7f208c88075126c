use Rattle.text.proofs.Steps.{grown_as, stars_go, stars_end}
use Rattle.text.proofs.readers.Reader.+stars.Goals as goal

pub returns-then-take-clause-read : goal.returns-then-take-clause-read
returns-then-take-clause-read t c = stars_go (c.take.ensures.yes c.if-take.true) (grown_as c.from.ensures c.insert_at.ensures) c.stars.ensures.read

pub returns-else-take-clause-read : goal.returns-else-take-clause-read
returns-else-take-clause-read t c = stars_end (c.take.ensures.no c.if-take.false)
