use Rattle.std.proofs.Common.{◌-◌, length}
use Rattle.text.proofs.readers.Reader.+stars.Given as goal

abbrev pub decreases-stars : goal.decreases-stars
decreases-stars l = length l.self.now.text.now - l.self.now.at
