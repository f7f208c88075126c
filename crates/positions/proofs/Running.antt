-- The language test: its word of state after each symbol, and its answer.
use Rattle.std.proofs.Common.{◌≡◌, ℕ, ◌+◌, ◌-◌, ◌<◌, ◌≤◌, Bool, true, false, not, eqb, ◌↔◌, List, [], ◌∷◌, map, length, get_or, drop, sym, refl, ap, ◌∙◌, ap₂, arith}
use lib.Bits.{bit_and}
use Rattle.std.proofs.lemmas.List.{length-map, drop-map, drop_more, drop_all, nil_from_length}
use Rattle.rules.specs.Trees.{Tree}
use Rattle.rules.specs.Languages.{Sight, In, seen}
use Rattle.positions.specs.declared.sets.Positions.{Positions}
use Rattle.positions.specs.Positions.{first_set, follow_sets, leaf_of}
use Rattle.positions.specs.SetsOf.{SetsOf, kept_leaves}
use Rattle.positions.specs.Steps.{holders, followers, step, reach, accepts}
use Rattle.positions.proofs.Loops.{none_follow, followers_front}
use Rattle.positions.proofs.Steps.{accepts_exactly}

-- a test that gives what the steps give is the language's
exactly : (t : Tree) (w : List Sight) (b : Bool) → b ≡ accepts t w → (b ≡ true) ↔ In t w
exactly t w b e = (λ h. (accepts_exactly t w).0 (sym e ∙ h), λ h. e ∙ (accepts_exactly t w).1 h)

-- from no leaf none is reached
none_reached : (t : Tree) (w : List Sight) → reach t 0 w ≡ 0
none_reached t [] = refl
none_reached t (s ∷ w) = ap (λ z. reach t (bit_and z (holders (leaf_of t) 0 s)) w) (none_follow (follow_sets t 0) 0) ∙ none_reached t w

module _ {S : Type 0} (held : ℕ → ℕ → S → Bool) where
  abbrev sight : S → Sight
  sight x lo hi = held lo hi x

  -- the symbols from i on: that at i, and the others
  seen_more : (name : List S) (i : ℕ) (x : S) → i < length name → x ≡ get_or name i x → drop i (seen held name) ≡ sight x ∷ drop (i + 1) (seen held name)
  seen_more name i x lt e =
      drop-map sight i name ∙ ap (map sight) (drop_more name i x lt) ∙ ap (λ z. sight z ∷ map sight (drop (i + 1) name)) (sym e)
      ∙ ap {B = List Sight} (λ z. sight x ∷ z) (sym (drop-map sight (i + 1) name))

  module _ (t : Tree) (p : Positions) (h : SetsOf t p) where
    pub run_step : (set a r : ℕ) (x : S) → a ≡ followers p.follow 0 set → r ≡ bit_and a (holders (kept_leaves p) 0 (λ lo hi. held lo hi x)) → r ≡ step t set (λ lo hi. held lo hi x)
    run_step set a r x e f =
        f
        ∙ ap₂ bit_and (e ∙ followers_front p.follow p.count (32 - p.count) set h.no_more_follow ∙ ap (λ z. followers z 0 set) h.follow_is) (ap (λ z. holders z 0 (sight x)) h.leaves_are)

    pub run_turn : (rest : List S) (i set r start : ℕ) (x : S) → i < length rest → x ≡ get_or rest i x → r ≡ step t set (λ lo hi. held lo hi x)
        → reach t set (drop i (seen held rest)) ≡ reach t start (seen held rest) → reach t r (drop (i + 1) (seen held rest)) ≡ reach t start (seen held rest)
    run_turn rest i set r start x lt e f k = ap (λ a. reach t a (drop (i + 1) (seen held rest))) f ∙ ap (λ w. reach t set w) (sym (seen_more rest i x lt e)) ∙ k

    pub run_none : (name : List S) → length name ≡ 0 → (p.nullable ≡ true) ↔ In t (seen held name)
    run_none name e = exactly t (seen held name) p.nullable (h.nullable_is ∙ ap (λ z. accepts t (seen held z)) (sym (nil_from_length name e)))

    begun : (a : ℕ) (x : S) → a ≡ bit_and p.first (holders (kept_leaves p) 0 (λ lo hi. held lo hi x)) → a ≡ bit_and (first_set t 0) (holders (leaf_of t) 0 (sight x))
    begun a x f = f ∙ ap₂ bit_and h.first_is (ap (λ z. holders z 0 (sight x)) h.leaves_are)

    -- the name is taken apart, and set is what its symbols reach
    answered : (name rest : List S) (set a : ℕ) (x : S) → 0 < length name → x ≡ get_or name 0 x → rest ≡ drop 1 name
        → a ≡ bit_and p.first (holders (kept_leaves p) 0 (λ lo hi. held lo hi x)) → set ≡ reach t a (seen held rest) → (not (eqb (bit_and set p.last) 0) ≡ true) ↔ In t (seen held name)
    answered name rest set a x lt e r f reached =
        let whole : name ≡ x ∷ rest = drop_more name 0 x lt ∙ ap₂ {C = List S} (λ y ys. y ∷ ys) (sym e) (sym r) in
        exactly t (seen held name) (not (eqb (bit_and set p.last) 0))
        (ap₂ (λ y z. not (eqb (bit_and y z) 0)) (reached ∙ ap (λ z. reach t z (seen held rest)) (begun a x f)) h.last_is ∙ ap (λ z. accepts t (seen held z)) (sym whole))

    pub run_end : (name rest : List S) (i set a : ℕ) (x : S) → 0 < length name → x ≡ get_or name 0 x → rest ≡ drop 1 name → length rest ≤ i
        → a ≡ bit_and p.first (holders (kept_leaves p) 0 (λ lo hi. held lo hi x)) → reach t set (drop i (seen held rest)) ≡ reach t a (seen held rest)
        → (not (eqb (bit_and set p.last) 0) ≡ true) ↔ In t (seen held name)
    run_end name rest i set a x lt e r le f k =
        let ended : reach t set (drop i (seen held rest)) ≡ set = ap (λ z. reach t set z) (drop_all i (seen held rest) (omega (arith, length-map rest sight))) in
        answered name rest set a x lt e r f (sym ended ∙ k)

    -- no leaf is reached, so none will be
    pub run_stuck : (name rest : List S) (i set a : ℕ) (x : S) → 0 < length name → x ≡ get_or name 0 x → rest ≡ drop 1 name
        → a ≡ bit_and p.first (holders (kept_leaves p) 0 (λ lo hi. held lo hi x)) → reach t set (drop i (seen held rest)) ≡ reach t a (seen held rest)
        → set ≡ 0 → (false ≡ true) ↔ In t (seen held name)
    run_stuck name rest i set a x lt e r f k z =
        let none : 0 ≡ reach t a (seen held rest) = sym (none_reached t (drop i (seen held rest))) ∙ ap (λ y. reach t y (drop i (seen held rest))) (sym z) ∙ k in
        answered name rest 0 a x lt e r f none
