use Rattle.positions.proofs.Meanings.{sets_mean}
use Rattle.positions.proofs.theorems.sets_mean_the_words.Goals as goal

pub returns : goal.returns
returns c = sets_mean
