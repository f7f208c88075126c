-- What a policy's order is, which laws it keeps, and the reading that it prefers. Assumes nothing.
use Rattle.std.specs.Prelude.{◌≡◌, ℕ, suc, ◌+◌, ◌≤◌, Bool, true, ◌⊎◌, ◌↔◌, List, ◌∷◌, ◌++◌, ℤ, pos, negsuc, ◌≢◌}
use Rattle.std.specs.declared.cmp.Ordering.TheVariants.{Less, Equal, Greater}
use Rattle.std.specs.declared.cmp.Ordering.{Ordering}
use Rattle.rules.specs.declared.row.Row.{Row}
use Rattle.rules.specs.Trees.{Tree, choice, sequence, rows, size, Of, Bound}
use Rattle.rules.specs.Languages.{Sight}
use Rattle.rules.specs.Readings.{Reading, Reads, ReadsWhole, stretch, nothing}

-- for a rule's rows and a node: whether the first reading outranks the second
abbrev pub Order : Type 0
Order = List Row → ℕ → Reading → Reading → Bool

-- at a node of a rule: of two different readings of one stretch exactly one outranks the other, none outranks itself, and outranking carries through a third
pub record Decided (above : Order) : Type 0 where
  pub one : (t : Tree) → size t ≤ 64 → (n : ℕ) (s : Tree) → Bound t n s → (w : List Sight) (i j : ℕ) (x y : Reading) → Reads w s i j x → Reads w s i j y → (x ≢ y) → (above (rows t) n x y ≡ true) ⊎ (above (rows t) n y x ≡ true)
  pub not_both : (t : Tree) → size t ≤ 64 → (n : ℕ) (s : Tree) → Bound t n s → (w : List Sight) (i j : ℕ) (x y : Reading) → Reads w s i j x → Reads w s i j y → above (rows t) n x y ≡ true → above (rows t) n y x ≢ true
  pub carries : (t : Tree) → size t ≤ 64 → (n : ℕ) (s : Tree) → Bound t n s → (w : List Sight) (i j : ℕ) (x y z : Reading) → Reads w s i j x → Reads w s i j y → Reads w s i j z → above (rows t) n x y ≡ true → above (rows t) n y z ≡ true → above (rows t) n x z ≡ true

-- at a node of a rule: exchanging the reading of a direct part for one that outranks it on the same stretch gives a whole that outranks the old
pub record Replaced (above : Order) : Type 0 where
  pub choice_first : (t : Tree) → size t ≤ 64 → (n : ℕ) (p q : Tree) → Bound t n (choice p q) → (w : List Sight) (i j : ℕ) (x y : Reading) → Reads w p i j x → Reads w p i j y → above (rows t) (suc n) x y ≡ true → above (rows t) n (stretch i j ∷ (x ++ nothing q)) (stretch i j ∷ (y ++ nothing q)) ≡ true
  pub choice_second : (t : Tree) → size t ≤ 64 → (n : ℕ) (p q : Tree) → Bound t n (choice p q) → (w : List Sight) (i j : ℕ) (x y : Reading) → Reads w q i j x → Reads w q i j y → above (rows t) (suc (size p + n)) x y ≡ true → above (rows t) n (stretch i j ∷ (nothing p ++ x)) (stretch i j ∷ (nothing p ++ y)) ≡ true
  pub sequence_first : (t : Tree) → size t ≤ 64 → (n : ℕ) (p q : Tree) → Bound t n (sequence p q) → (w : List Sight) (i k j : ℕ) (x y z : Reading) → Reads w p i k x → Reads w p i k y → Reads w q k j z → above (rows t) (suc n) x y ≡ true → above (rows t) n (stretch i j ∷ (x ++ z)) (stretch i j ∷ (y ++ z)) ≡ true
  pub sequence_second : (t : Tree) → size t ≤ 64 → (n : ℕ) (p q : Tree) → Bound t n (sequence p q) → (w : List Sight) (i k j : ℕ) (z x y : Reading) → Reads w p i k z → Reads w q k j x → Reads w q k j y → above (rows t) (suc (size p + n)) x y ≡ true → above (rows t) n (stretch i j ∷ (z ++ x)) (stretch i j ∷ (z ++ y)) ≡ true

-- x is the reading of the whole name w by t that outranks every other
pub record Best (above : Order) (t : Tree) (w : List Sight) (x : Reading) : Type 0 where
  pub reads : ReadsWhole w t x
  pub outranks : (y : Reading) → ReadsWhole w t y → (y ≢ x) → above (rows t) 0 x y ≡ true

-- the number of an answer: 1 where the first reading outranks the second, -1 where the second outranks the first, 0 where they are one
abbrev pub rank_number : Ordering → ℤ
rank_number Greater = pos 1
rank_number Less = negsuc 0
rank_number Equal = pos 0

-- what the answer to a comparison of x with y says
pub record Answers (above : Order) (rs : List Row) (n : ℕ) (x y : Reading) (answer : Ordering) : Type 0 where
  pub greater : (rank_number answer ≡ pos 1) ↔ (above rs n x y ≡ true)
  pub less : (rank_number answer ≡ negsuc 0) ↔ (above rs n y x ≡ true)
  pub equal : (rank_number answer ≡ pos 0) ↔ (x ≡ y)

-- where the rows are a rule's, n is a node of it with no star above it, and x and y are readings of one stretch by that node, the answer says which outranks the other; elsewhere it is free
abbrev pub Ranks : Order → List Row → ℕ → Reading → Reading → Ordering → Type 0
Ranks above rs n x y answer = (t s : Tree) → Of rs t → size t ≤ 64 → Bound t n s → (w : List Sight) (i j : ℕ) → Reads w s i j x → Reads w s i j y → Answers above rs n x y answer

-- the order turned round
abbrev pub opposite : Order → Order
opposite above rs n x y = above rs n y x
