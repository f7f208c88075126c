use Rattle.std.proofs.Common.{◌-◌, length}
use Rattle.matcher.specs.Frames.{frame_rows}
use Rattle.matcher.proofs.frame.Frame.+unpack.Given as goal

abbrev pub decreases-unpack : goal.decreases-unpack
decreases-unpack l = length (frame_rows l.self.now) - l.node
