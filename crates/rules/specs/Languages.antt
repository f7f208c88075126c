-- The names of a rule. Assumes nothing.
use Rattle.std.specs.Prelude.{◌≡◌, ℕ, ◌-◌, Bool, true, List, [], ◌∷◌, ◌++◌, map, take, drop}
use Rattle.rules.specs.Trees.{Tree, empty, leaf, choice, sequence, star}

-- A symbol, as the leaves see it: whether a leaf lo to hi holds it. A name is seen symbol by symbol,
-- so that no statement about names has to speak of one alphabet.
abbrev pub Sight : Type 0
Sight = ℕ → ℕ → Bool

-- a name, seen by what each leaf holds of its symbols
abbrev pub seen : {S : Type 0} → (ℕ → ℕ → S → Bool) → List S → List Sight
seen holds name = map (λ s lo hi. holds lo hi s) name

-- w is a name of the tree
pub data In : Tree → List Sight → Type 0 where
  in_empty : In empty []
  in_leaf : {lo hi : ℕ} {s : Sight} → s lo hi ≡ true → In (leaf lo hi) (s ∷ [])
  in_first : {p q : Tree} {w : List Sight} → In p w → In (choice p q) w
  in_second : {p q : Tree} {w : List Sight} → In q w → In (choice p q) w
  in_sequence : {p q : Tree} {u v : List Sight} → In p u → In q v → In (sequence p q) (u ++ v)
  in_none : {p : Tree} → In (star p) []
  in_more : {p : Tree} {u v : List Sight} → In p u → In (star p) v → In (star p) (u ++ v)

-- the symbols of w from i up to j
abbrev pub part : List Sight → ℕ → ℕ → List Sight
part w i j = take (j - i) (drop i w)
