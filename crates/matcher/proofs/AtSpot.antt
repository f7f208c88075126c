-- The names by which lemmas speak of a spot.
use Rattle.std.proofs.Common.{ℕ, List}
use Rattle.rules.specs.declared.row.Row.{Row}
use Rattle.matcher.specs.declared.frame.Frame.{Frame}
use Rattle.matcher.specs.declared.frame.Spot.{Spot}
use Rattle.matcher.specs.Frames.{frame_rows}

pub record Names : Type 0 where
  pub rs : List Row
  pub n : ℕ
  pub m : ℕ
  pub i : ℕ
  pub j : ℕ

abbrev pub names : Frame → Spot → Names
names f s = record { rs = frame_rows f; n = f.symbols; m = s.node; i = s.start; j = s.end }
