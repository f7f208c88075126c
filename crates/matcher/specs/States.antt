-- What the engine asks and answers as it fills the bench, and the states of its loops. Assumes nothing.
use Rattle.std.specs.Prelude.{◌≡◌, ℕ, ◌+◌, ◌-◌, ◌<◌, ◌≤◌, Bool, true, false, List, ◌∷◌, ◌++◌, length, ◌≢◌}
use Rattle.rules.specs.declared.row.Row.{Row}
use Rattle.rules.specs.Trees.{Tree, sequence, star, rows, Of, Bound}
use Rattle.rules.specs.Languages.{Sight, In, part}
use Rattle.rules.specs.Readings.{Reading, Reads, stretch}
use Rattle.policies.specs.Orders.{Order}
use Rattle.rules.specs.Nodes.{Stands}
use Rattle.matcher.specs.Unpacking.{cell, unpacked}
use Rattle.matcher.specs.Benches.{Sound, Marked, Grown, AtLeast, Held, Right}

-- r says whether the word is in the tree's language
pub record Says (s : Tree) (x : List Sight) (r : Bool) : Type 0 where
  pub has : r ≡ true → In s x
  pub lacks : r ≡ false → In s x → ⊥

-- every split of i to j that the nodes p and q can have is one from a and below b
pub record Reach (rs : List Row) (p q i j a b : ℕ) : Type 0 where
  pub from : i ≤ a
  pub order : a ≤ b
  pub to : b ≤ j + 1
  pub only : (w : List Sight) → j ≤ length w → (s s' : Tree) → Stands rs p s → Stands rs q s' → (h : ℕ) → i ≤ h → h ≤ j → In s (part w i h) → In s' (part w h j) → (a ≤ h) × (h < b)

-- r says whether the node has the stretch, and the bench is still sound
pub record Told (rs : List Row) (w : List Sight) (n : ℕ) (bs bs' : List ℕ) (m i j : ℕ) (r : Bool) : Type 0 where
  pub sound : Sound rs w n bs'
  pub marked : Marked bs bs'
  pub says : (s : Tree) → Stands rs m s → Says s (part w i j) r

-- r says whether p has the stretch from i to k and q that from k to j
pub record BothTold (rs : List Row) (w : List Sight) (n : ℕ) (bs bs' : List ℕ) (p q i k j : ℕ) (r : Bool) : Type 0 where
  pub sound : Sound rs w n bs'
  pub marked : Marked bs bs'
  pub first : r ≡ true → (s : Tree) → Stands rs p s → In s (part w i k)
  pub second : r ≡ true → (s : Tree) → Stands rs q s → In s (part w k j)
  pub neither : r ≡ false → (s s' : Tree) → Stands rs p s → Stands rs q s' → In s (part w i k) → In s' (part w k j) → ⊥

-- no split below k of a sequence has both halves
pub record NoSplit (rs : List Row) (w : List Sight) (n : ℕ) (bs bs' : List ℕ) (m i j k : ℕ) : Type 0 where
  pub sound : Sound rs w n bs'
  pub marked : Marked bs bs'
  pub none : (p q : Tree) → Stands rs m (sequence p q) → (h : ℕ) → i ≤ h → h < k → In p (part w i h) → In q (part w h j) → ⊥

-- no first round below k of a star has the rest behind it
pub record NoRound (rs : List Row) (w : List Sight) (n : ℕ) (bs bs' : List ℕ) (m i j k : ℕ) : Type 0 where
  pub sound : Sound rs w n bs'
  pub marked : Marked bs bs'
  pub none : (p : Tree) → Stands rs m (star p) → (h : ℕ) → i < h → h < k → In p (part w i h) → In (star p) (part w h j) → ⊥

-- the node has the stretch
abbrev pub Present : List Row → List Sight → ℕ → ℕ → ℕ → Type 0
Present rs w m i j = (s : Tree) → Stands rs m s → In s (part w i j)

-- r is the one of the codes a and b whose reading is at least the other's
pub record Kept (above : Order) (t : Tree) (w : List Sight) (n : ℕ) (bs : List ℕ) (s : Tree) (m i j a b r : ℕ) : Type 0 where
  pub old : AtLeast above (rows t) m (unpacked n bs s m (stretch i j) r) (unpacked n bs s m (stretch i j) a)
  pub new : AtLeast above (rows t) m (unpacked n bs s m (stretch i j) r) (unpacked n bs s m (stretch i j) b)

-- r is the code that is kept of a and b, for every tree with these rows
abbrev pub Keeps : Order → List Row → ℕ → List ℕ → ℕ → ℕ → ℕ → ℕ → ℕ → ℕ → Type 0
Keeps above rs n bs m i j a b r = (t s : Tree) (w : List Sight) → Of rs t → Bound t m s → (a ≢ 0) → Reads w s i j (unpacked n bs s m (stretch i j) a) → Reads w s i j (unpacked n bs s m (stretch i j) b) → Kept above t w n bs s m i j a b r

-- r is a code of the node's stretch, that of the best reading
pub record Coded (above : Order) (rs : List Row) (w : List Sight) (n : ℕ) (bs : List ℕ) (m i j r : ℕ) : Type 0 where
  pub some : 0 < r
  pub small : r < 254
  pub held : (t : Tree) → Of rs t → (s : Tree) → Bound t m s → Held above t w n bs s m i j r

-- the code of a node's stretch is in the bench
pub record Settled (above : Order) (rs : List Row) (w : List Sight) (n : ℕ) (bs bs' : List ℕ) (m i j : ℕ) : Type 0 where
  pub right : Right above rs w n bs'
  pub grown : Grown bs bs'
  pub some : 0 < cell n bs' m i j
  pub small : cell n bs' m i j < 254

-- r is the code of a node's stretch
pub record Got (above : Order) (rs : List Row) (w : List Sight) (n : ℕ) (bs bs' : List ℕ) (m i j r : ℕ) : Type 0 where
  pub right : Right above rs w n bs'
  pub grown : Grown bs bs'
  pub coded : Coded above rs w n bs' m i j r

-- the bench has codes for p from i to h and for q from h to j
pub record BothCoded (n : ℕ) (bs : List ℕ) (p q i h j : ℕ) : Type 0 where
  pub first_some : 0 < cell n bs p i h
  pub first_small : cell n bs p i h < 254
  pub second_some : 0 < cell n bs q h j
  pub second_small : cell n bs q h j < 254

-- every split below k of the sequence at node m that has both halves has codes for both; q is the node of its second part
pub record Prepared (above : Order) (rs : List Row) (w : List Sight) (n : ℕ) (bs bs' : List ℕ) (m q i j k : ℕ) : Type 0 where
  pub right : Right above rs w n bs'
  pub grown : Grown bs bs'
  pub coded : (p s : Tree) → Stands rs m (sequence p s) → (h : ℕ) → i ≤ h → h < k → In p (part w i h) → In s (part w h j) → BothCoded n bs' (m + 1) q i h j

-- the best split of the sequence at node m can be chosen: the bench is right, the node has the stretch, and every split has its codes
pub record Ready (above : Order) (rs : List Row) (w : List Sight) (n : ℕ) (bs : List ℕ) (m q i j : ℕ) : Type 0 where
  pub long : length w ≡ n
  pub right : Right above rs w n bs
  pub present : Present rs w m i j
  pub coded : (p s : Tree) → Stands rs m (sequence p s) → (h : ℕ) → i ≤ h → h ≤ j → In p (part w i h) → In s (part w h j) → BothCoded n bs (m + 1) q i h j

-- of the splits below k of the sequence at node m, r is the code of the best, or 0 if there is none
pub record BestBelow (above : Order) (rs : List Row) (w : List Sight) (n : ℕ) (bs : List ℕ) (m q i j k r : ℕ) : Type 0 where
  pub split : (r ≢ 0) → (h : ℕ) × (i ≤ h) × (h ≤ j) × (r ≡ h - i + 1) × BothCoded n bs (m + 1) q i h j
  pub some : (p s : Tree) → Stands rs m (sequence p s) → (h : ℕ) → i ≤ h → h < k → In p (part w i h) → In s (part w h j) → r ≢ 0
  pub outranks : (t : Tree) → Of rs t → (p s : Tree) → Bound t m (sequence p s) → (h : ℕ) (y z : Reading) → i ≤ h → h < k → Reads w p i h y → Reads w s h j z → AtLeast above (rows t) m (unpacked n bs (sequence p s) m (stretch i j) r) (stretch i j ∷ (y ++ z))

-- x is the reading that the bench holds for node m on the stretch by code r
abbrev pub Shows : List Row → ℕ → List ℕ → ℕ → ℕ → ℕ → ℕ → Reading → Type 0
Shows rs n bs m i j r x = (s : Tree) → Stands rs m s → x ≡ unpacked n bs s m (stretch i j) r
