-- What the engine's functions ask of a bench and tell of it, for a name that is read by a rule. Assumes nothing.
use Rattle.std.specs.Prelude.{ℕ, Bool, List}
use Rattle.rules.specs.declared.alphabet.Alphabet.{Ghosts}
use Rattle.rules.specs.Languages.{Sight, seen}
use Rattle.rules.specs.Readings.{Reading}
use Rattle.policies.specs.Orders.{Order}
use Rattle.matcher.specs.declared.frame.Frame.{Frame}
use Rattle.matcher.specs.declared.frame.Spot.{Spot}
use Rattle.matcher.specs.declared.search.Search.{Search}
use Rattle.matcher.specs.Benches.{Sound, Right}
use Rattle.matcher.specs.Frames.{frame_rows, second_node, Laid, On}
use Rattle.matcher.specs.States.{Told, BothTold, Present, Keeps, Coded, Settled, Got, Prepared, Ready, BestBelow, Shows}

-- the name, as the leaves see it
abbrev pub word : {A P S : Type 0} {g : Ghosts A S} → Search A P S g → List Sight
word {g = g} s = seen (g.held s.alphabet.now) s.name.now

-- it can be asked whether the node has the stretch
pub record Asked (f : Frame) (w : List Sight) (bs : List ℕ) (s : Spot) : Type 0 where
  pub laid : Laid f bs
  pub on : On f s
  pub sound : Sound (frame_rows f) w f.symbols bs

-- r says whether the node has the stretch, and the bench is still sound
abbrev pub ToldAt : Frame → List Sight → List ℕ → List ℕ → Spot → Bool → Type 0
ToldAt f w bs bs' s r = Told (frame_rows f) w f.symbols bs bs' s.node s.start s.end r

-- r says whether the nodes have the two halves of a split
abbrev pub BothToldAt : Frame → List Sight → List ℕ → List ℕ → Spot → Spot → Bool → Type 0
BothToldAt f w bs bs' s s' r = BothTold (frame_rows f) w f.symbols bs bs' s.node s'.node s.start s.end s'.end r

-- the code of the stretch's best reading can be asked for
pub record Sought (above : Order) (f : Frame) (w : List Sight) (bs : List ℕ) (s : Spot) : Type 0 where
  pub laid : Laid f bs
  pub on : On f s
  pub right : Right above (frame_rows f) w f.symbols bs

-- the node has the stretch
abbrev pub PresentAt : Frame → List Sight → Spot → Type 0
PresentAt f w s = Present (frame_rows f) w s.node s.start s.end

-- the code of the spot is in the bench
abbrev pub SettledAt : Order → Frame → List Sight → List ℕ → List ℕ → Spot → Type 0
SettledAt above f w bs bs' s = Settled above (frame_rows f) w f.symbols bs bs' s.node s.start s.end

-- r is the code of the spot
abbrev pub GotAt : Order → Frame → List Sight → List ℕ → List ℕ → Spot → ℕ → Type 0
GotAt above f w bs bs' s r = Got above (frame_rows f) w f.symbols bs bs' s.node s.start s.end r

-- every split of a sequence below k that has both halves has codes for both
abbrev pub PreparedAt : Order → Frame → List Sight → List ℕ → List ℕ → Spot → ℕ → Type 0
PreparedAt above f w bs bs' s k = Prepared above (frame_rows f) w f.symbols bs bs' s.node (second_node f s.node) s.start s.end k

-- x is the reading that the bench holds for the spot by code r
abbrev pub ShowsAt : Frame → List ℕ → Spot → ℕ → Reading → Type 0
ShowsAt f bs s r x = Shows (frame_rows f) f.symbols bs s.node s.start s.end r x

-- r is the one of the codes a and b whose reading is at least the other's
abbrev pub KeepsAt : Order → Frame → List ℕ → Spot → ℕ → ℕ → ℕ → Type 0
KeepsAt above f bs s a b r = Keeps above (frame_rows f) f.symbols bs s.node s.start s.end a b r

-- r is the code of the spot's best reading
abbrev pub CodedAt : Order → Frame → List Sight → List ℕ → Spot → ℕ → Type 0
CodedAt above f w bs s r = Coded above (frame_rows f) w f.symbols bs s.node s.start s.end r

-- the best split of a sequence can be chosen
abbrev pub ReadyAt : Order → Frame → List Sight → List ℕ → Spot → Type 0
ReadyAt above f w bs s = Ready above (frame_rows f) w f.symbols bs s.node (second_node f s.node) s.start s.end

-- of the splits of a sequence below k, r is the code of the best, or 0 if there is none
abbrev pub BestBelowAt : Order → Frame → List Sight → List ℕ → Spot → ℕ → ℕ → Type 0
BestBelowAt above f w bs s k r = BestBelow above (frame_rows f) w f.symbols bs s.node (second_node f s.node) s.start s.end k r
