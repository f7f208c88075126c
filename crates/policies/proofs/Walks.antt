-- Two readings compared entry by entry.
use Rattle.std.proofs.Common.{◌≡◌, ℕ, ◌<◌, List, [], ◌∷◌, length, map, Option, Ordering, Less, Equal, Greater, sym, arith}
use Rattle.std.specs.Option.{unwrap_or}
use Rattle.std.specs.List.{find, zip}
use Rattle.std.specs.Ordering.{MatchOrdering, is_ne, nat_cmp}
use Rattle.std.specs.Cmp.{ranks}
use Rattle.rules.specs.declared.row.Row.{Row}
use Rattle.rules.specs.Readings.{Reading}
use Rattle.policies.specs.Keys.{Key, extent, keys, KeysCompare}
use Rattle.policies.specs.Lex.{lex_greater, lex_after}

-- a row and the entries of two readings there
abbrev pub Entries : Type 0
Entries = (Row × Option (ℕ × ℕ)) × Option (ℕ × ℕ)

-- the keys of the two entries, compared
abbrev pub compared : Key → Entries → Ordering
compared key e = nat_cmp (key e.0.0.kind (extent e.0.1)) (key e.0.0.kind (extent e.1))

-- the first comparison that is not equal
abbrev pub first_unequal : Key → List Row → Reading → Reading → Ordering
first_unequal key rs x y = unwrap_or (find is_ne (map (compared key) (zip (zip rs x) y))) Equal

-- where the first keys are compared, and the rest if those are equal
decided_by : (a b : ℕ) (xs ys : List ℕ) (os : List Ordering) (o : Ordering) → MatchOrdering o (a < b) (a ≡ b) (b < a) → KeysCompare xs ys (unwrap_or (find is_ne os) Equal)
    → KeysCompare (a ∷ xs) (b ∷ ys) (unwrap_or (find is_ne (o ∷ os)) Equal)
decided_by a b xs ys os Less lt h = lex_greater b ys a xs lt
decided_by a b xs ys os Greater gt h = lex_greater a xs b ys gt
decided_by a b xs ys os Equal e h = go (unwrap_or (find is_ne os) Equal) h
  where
    go : (o : Ordering) → KeysCompare xs ys o → KeysCompare (a ∷ xs) (b ∷ ys) o
    go Less k = lex_after b ys a xs (sym e) k
    go Equal k = cc
    go Greater k = lex_after a xs b ys e k

pub walked : (key : Key) (rs : List Row) (x y : Reading) → length x ≡ length y → KeysCompare (keys key rs x) (keys key rs y) (first_unequal key rs x y)
walked key [] x y l = cc
walked key (r ∷ rs) [] [] l = cc
walked key (r ∷ rs) [] (b ∷ y) l = absurd (omega arith)
walked key (r ∷ rs) (a ∷ x) [] l = absurd (omega arith)
walked key (r ∷ rs) (a ∷ x) (b ∷ y) l =
    let m = key r.kind (extent a) in
    let n = key r.kind (extent b) in
    decided_by m n (keys key rs x) (keys key rs y) (map (compared key) (zip (zip rs x) y)) (nat_cmp m n) (ranks m n) (walked key rs x y (omega arith))
