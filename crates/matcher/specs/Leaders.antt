-- The best code so far, and the reading that the pad shows of it. Assumes nothing.
use Rattle.std.specs.Prelude.{ℕ, ◌<◌, List, Some, None, Option}
use Rattle.rules.specs.Readings.{Reading}
use Rattle.matcher.specs.declared.frame.Frame.{Frame}
use Rattle.matcher.specs.declared.frame.Spot.{Spot}
use Rattle.matcher.specs.declared.ranking.Leader.{Leader}
use Rattle.matcher.specs.declared.ranking.Leader.TheVariants.{Alone, Shown}
use Rattle.matcher.specs.Searches.{ShowsAt}

abbrev pub leader_code : Leader → ℕ
leader_code (Alone c) = c
leader_code (Shown c) = c

-- the code of the best so far, or 0 where there is none
abbrev pub best_code : Option Leader → ℕ
best_code None = 0
best_code (Some l) = leader_code l

-- x is the reading of a code that was compared
abbrev pub LeaderShown : Frame → List ℕ → Spot → Leader → Reading → Type 0
LeaderShown f bs s (Alone c) x = Unit {0}
LeaderShown f bs s (Shown c) x = ShowsAt f bs s c x

-- the best so far, if there is one, has a code, and x is its reading if it was compared
abbrev pub BestShown : Frame → List ℕ → Spot → Option Leader → Reading → Type 0
BestShown f bs s None x = Unit {0}
BestShown f bs s (Some l) x = (0 < leader_code l) × LeaderShown f bs s l x
