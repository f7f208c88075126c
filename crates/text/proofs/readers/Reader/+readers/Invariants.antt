use Rattle.std.proofs.Common.{◌+◌, ◌-◌, ◌*◌, length}
use Rattle.text.proofs.readers.Reader.+readers.Given as goal

abbrev pub decreases-atom : goal.decreases-atom
decreases-atom l = 4 * (length l.self.now.text.now - l.self.now.at)

abbrev pub decreases-branch : goal.decreases-branch
decreases-branch l = 4 * (length l.self.now.text.now - l.self.now.at) + 2

abbrev pub decreases-piece : goal.decreases-piece
decreases-piece l = 4 * (length l.self.now.text.now - l.self.now.at) + 1

abbrev pub decreases-text : goal.decreases-text
decreases-text l = 4 * (length l.self.now.text.now - l.self.now.at) + 3
