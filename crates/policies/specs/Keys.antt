-- Orders by keys: each node's stretch gives a number, and the first node, in node order, whose numbers differ decides. Assumes nothing.
use Rattle.std.specs.Prelude.{◌≡◌, ℕ, suc, ◌-◌, ◌<◌, Bool, true, false, cond, List, [], ◌∷◌, drop, Some, None, Option, ◌==◌, nat_lt}
use Rattle.std.specs.declared.cmp.Ordering.{Ordering}
use Rattle.std.specs.Ordering.{MatchOrdering}
use Rattle.rules.specs.declared.row.Row.{Row}
use Rattle.rules.specs.Readings.{Reading}
use Rattle.policies.specs.Orders.{Order}

-- the length of a node's stretch, or nothing
abbrev pub extent : Option (ℕ × ℕ) → Option ℕ
extent None = None
extent (Some s) = Some (s.1 - s.0)

-- the number of a node, from its kind and its stretch's length or nothing
abbrev pub Key : Type 0
Key = ℕ → Option ℕ → ℕ

-- the keys of a reading's nodes, over their rows
abbrev pub keys : Key → List Row → Reading → List ℕ
keys key [] r = []
keys key (x ∷ xs) [] = []
keys key (x ∷ xs) (e ∷ es) = key x.kind (extent e) ∷ keys key xs es

-- the first place where the lists differ has the greater number in the first list
abbrev pub lex_above : List ℕ → List ℕ → Bool
lex_above [] ys = false
lex_above (x ∷ xs) [] = true
lex_above (x ∷ xs) (y ∷ ys) = cond (nat_lt y x) true (cond (x == y) (lex_above xs ys) false)

-- the order of a key: the first node, from n on, whose keys differ decides, and the greater key outranks
abbrev pub above_by : Key → Order
above_by key rs n x y = lex_above (keys key (drop n rs) x) (keys key (drop n rs) y)

-- what a key must tell for its order to be lawful: whether a node takes part, and how much a star takes
pub record Faithful (key : Key) : Type 0 where
  pub at_none : (kind : ℕ) → key kind None ≡ 0
  pub at_some : (kind len : ℕ) → 0 < key kind (Some len)
  pub at_star : (len : ℕ) → key 4 (Some len) ≡ suc len

-- an answer that compares the keys of two stretches, by their lengths or nothing, at a node of the kind
abbrev pub NodesCompare : Key → ℕ → Option ℕ → Option ℕ → Ordering → Type 0
NodesCompare key kind a b answer = MatchOrdering answer (key kind a < key kind b) (key kind a ≡ key kind b) (key kind b < key kind a)

-- an answer that compares two lists of keys
abbrev pub KeysCompare : List ℕ → List ℕ → Ordering → Type 0
KeysCompare xs ys answer = MatchOrdering answer (lex_above ys xs ≡ true) (xs ≡ ys) (lex_above xs ys ≡ true)

-- POSIX: each node in turn takes as much as it can
abbrev pub posix_key : Key
posix_key kind None = 0
posix_key kind (Some len) = suc len

-- first-and-longest: a star takes as much as it can; any other node only takes part or does not
abbrev pub first_key : Key
first_key kind None = 0
first_key kind (Some len) = cond (kind == 4) (suc len) 1

-- the POSIX order
abbrev pub posix_above : Order
posix_above = above_by posix_key

-- the first-and-longest order
abbrev pub first_above : Order
first_above = above_by first_key
