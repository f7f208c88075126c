-- Running the position sets on masks, a symbol at a time. Assumes nothing.
use Rattle.std.specs.Prelude.{ℕ, suc, ◌^◌, Bool, cond, not, List, [], ◌∷◌, ◌==◌, bit_and, bit_or}
use Rattle.rules.specs.Trees.{Tree}
use Rattle.rules.specs.Languages.{Sight}
use Rattle.positions.specs.Positions.{member, nullable, first_set, last_set, follow_sets, leaf_of}

-- the leaves that hold s, the list's first having number n
abbrev pub holders : List (ℕ × ℕ) → ℕ → Sight → ℕ
holders [] n s = 0
holders (l ∷ ls) n s = bit_or (cond (s l.0 l.1) (2 ^ n) 0) (holders ls (suc n) s)

-- the leaves that follow one of the set, the list being the follow sets from leaf n on
abbrev pub followers : List ℕ → ℕ → ℕ → ℕ
followers [] n set = 0
followers (f ∷ fs) n set = bit_or (cond (member set n) f 0) (followers fs (suc n) set)

-- the leaves reached from those of the set by one symbol
abbrev pub step : Tree → ℕ → Sight → ℕ
step t set s = bit_and (followers (follow_sets t 0) 0 set) (holders (leaf_of t) 0 s)

-- the leaves reached from those of the set by all symbols in turn
abbrev pub reach : Tree → ℕ → List Sight → ℕ
reach t set [] = set
reach t set (s ∷ w) = reach t (step t set s) w

-- whether the last symbol is reached at a leaf that can come last
abbrev pub accepts : Tree → List Sight → Bool
accepts t [] = nullable t
accepts t (s ∷ w) = not (bit_and (reach t (bit_and (first_set t 0) (holders (leaf_of t) 0 s)) w) (last_set t 0) == 0)
