-- The keys of a reading's nodes. Assumes nothing.
use Rattle.std.specs.Prelude.{ℕ, ◌+◌, ◌-◌, ◌^◌, Bool, false, cond, ◌==◌, nat_lt, min, List, [], ◌∷◌, map, zip, Option, Some, None}
use Rattle.rules.specs.declared.row.Row.{Row}
use Rattle.cases.specs.declared.pick.Keys.{Keys}
use Rattle.cases.specs.declared.pick.Keys.TheVariants.{EveryNode, StarsOnly}

-- f of each row and its entry
abbrev pub keys : (Row → Option (ℕ × ℕ) → Option ℕ) → List Row → List (Option (ℕ × ℕ)) → List (Option ℕ)
keys f rs es = map (λ (p : Row × Option (ℕ × ℕ)). f p.0 p.1) (zip rs es)

-- one more than the length of a stretch, up to the largest number
abbrev pub length_key : ℕ × ℕ → ℕ
length_key s = min (s.1 - s.0 + 1) (2 ^ 64 - 1)

-- the key of a node as a number: 0 for nothing, and else that of its length, or 1 where lengths do not count
abbrev pub key_of : Keys → Row → Option (ℕ × ℕ) → ℕ
key_of ks r None = 0
key_of EveryNode r (Some s) = length_key s
key_of StarsOnly r (Some s) = cond (r.kind == 4) (length_key s) 1

-- the keys of a reading's nodes as numbers
abbrev pub node_keys : Keys → List Row → List (Option (ℕ × ℕ)) → List ℕ
node_keys ks rs es = map (λ (p : Row × Option (ℕ × ℕ)). key_of ks p.0 p.1) (zip rs es)

-- the first keys are above the second: greater where they first differ, of the places that both have
abbrev pub above : List ℕ → List ℕ → Bool
above [] ys = false
above (x ∷ xs) [] = false
above (x ∷ xs) (y ∷ ys) = cond (x == y) (above xs ys) (nat_lt y x)

-- the first keys are above the second or, for the opposite, below them
abbrev pub over : Bool → List ℕ → List ℕ → Bool
over opposite xs ys = cond opposite (above ys xs) (above xs ys)
