-- Names that the leaves of a rule see alike have the same readings by it.
use Rattle.std.proofs.Common.{◌≡◌, ℕ, zero, suc, ◌-◌, ◌<◌, ◌≤◌, Bool, List, [], ◌∷◌, ◌++◌, length, take, drop, sym, refl, ap, ◌∙◌, subst}
use Rattle.rules.specs.declared.row.Row.{Row}
use Rattle.rules.specs.Trees.{Tree, empty, leaf, choice, sequence, star, rows}
use Rattle.rules.specs.Languages.{Sight, seen, In, in_empty, in_leaf, in_first, in_second, in_sequence, in_none, in_more, part}
use Rattle.rules.specs.Readings.{Reading, Reads, reads_empty, reads_leaf, reads_first, reads_second, reads_sequence, reads_star}
use Rattle.sheet.specs.Law.{LeavesAlike}

-- every leaf of the tree sees two symbols alike
abbrev pub Same : Tree → Sight → Sight → Type 0
Same empty s u = Unit {0}
Same (leaf lo hi) s u = s lo hi ≡ u lo hi
Same (choice p q) s u = Same p s u × Same q s u
Same (sequence p q) s u = Same p s u × Same q s u
Same (star p) s u = Same p s u

split_alike : (a b : List Row) (s u : Sight) → LeavesAlike (a ++ b) s u → LeavesAlike a s u × LeavesAlike b s u
split_alike [] b s u h = (tt, h)
split_alike (r ∷ a) b s u h = let t = split_alike a b s u h.1 in ((h.0, t.0), t.1)

pub same_from : (t : Tree) (s u : Sight) → LeavesAlike (rows t) s u → Same t s u
same_from empty s u h = tt
same_from (leaf lo hi) s u h = h.0 refl
same_from (choice p q) s u h = let t = split_alike (rows p) (rows q) s u h.1 in (same_from p s u t.0, same_from q s u t.1)
same_from (sequence p q) s u h = let t = split_alike (rows p) (rows q) s u h.1 in (same_from p s u t.0, same_from q s u t.1)
same_from (star p) s u h = same_from p s u h.1

-- two names, symbol beside symbol
pub data Pairs (R : Sight → Sight → Type 0) : List Sight → List Sight → Type 0 where
  no_pair : Pairs R [] []
  pair_and : {s u : Sight} {w v : List Sight} → R s u → Pairs R w v → Pairs R (s ∷ w) (u ∷ v)

pub pairs_seen : {S : Type 0} (one other : ℕ → ℕ → S → Bool) (R : Sight → Sight → Type 0) → ((s : S) → R (λ lo hi. one lo hi s) (λ lo hi. other lo hi s)) → (name : List S) → Pairs R (seen one name) (seen other name)
pairs_seen one other R h [] = no_pair
pairs_seen one other R h (s ∷ name) = pair_and (h s) (pairs_seen one other R h name)

pairs_less : {R Q : Sight → Sight → Type 0} → ((s u : Sight) → R s u → Q s u) → {w v : List Sight} → Pairs R w v → Pairs Q w v
pairs_less f no_pair = no_pair
pairs_less f (pair_and {s = s} {u = u} h p) = pair_and (f s u h) (pairs_less f p)

pairs_length : {R : Sight → Sight → Type 0} {w v : List Sight} → Pairs R w v → length w ≡ length v
pairs_length no_pair = refl
pairs_length (pair_and h p) = ap suc (pairs_length p)

pairs_drop : {R : Sight → Sight → Type 0} {w v : List Sight} → Pairs R w v → (n : ℕ) → Pairs R (drop n w) (drop n v)
pairs_drop no_pair zero = no_pair
pairs_drop no_pair (suc n) = no_pair
pairs_drop (pair_and h p) zero = pair_and h p
pairs_drop (pair_and h p) (suc n) = pairs_drop p n

pairs_take : {R : Sight → Sight → Type 0} {w v : List Sight} → Pairs R w v → (n : ℕ) → Pairs R (take n w) (take n v)
pairs_take no_pair zero = no_pair
pairs_take no_pair (suc n) = no_pair
pairs_take (pair_and h p) zero = no_pair
pairs_take (pair_and h p) (suc n) = pair_and h (pairs_take p n)

pairs_flip : {R Q : Sight → Sight → Type 0} → ((s u : Sight) → R s u → Q u s) → {w v : List Sight} → Pairs R w v → Pairs Q v w
pairs_flip f no_pair = no_pair
pairs_flip f (pair_and {s = s} {u = u} h p) = pair_and (f s u h) (pairs_flip f p)

same_flip : (t : Tree) (s u : Sight) → Same t s u → Same t u s
same_flip empty s u h = tt
same_flip (leaf lo hi) s u h = sym h
same_flip (choice p q) s u h = (same_flip p s u h.0, same_flip q s u h.1)
same_flip (sequence p q) s u h = (same_flip p s u h.0, same_flip q s u h.1)
same_flip (star p) s u h = same_flip p s u h

pub turned : (t : Tree) {w v : List Sight} → Pairs (Same t) w v → Pairs (Same t) v w
turned t p = pairs_flip (same_flip t) p

abbrev Split : (R : Sight → Sight → Type 0) → List Sight → List Sight → List Sight → Type 0
Split R a b v = (c : List Sight) × ((d : List Sight) × ((c ++ d ≡ v) × (Pairs R a c × Pairs R b d)))

pairs_split : (R : Sight → Sight → Type 0) (a b v : List Sight) → Pairs R (a ++ b) v → Split R a b v
pairs_split R [] b v p = ([], (v, (refl, (no_pair, p))))
pairs_split R (s ∷ a) b v (pair_and {u = u} {v = z} h p) =
    let t = pairs_split R a b z p in
    (u ∷ t.0, (t.1.0, (ap (λ l. u ∷ l) t.1.1.0, (pair_and h t.1.1.1.0, t.1.1.1.1))))

pub in_alike : {t : Tree} {w : List Sight} → In t w → (v : List Sight) → Pairs (Same t) w v → In t v
in_alike in_empty v no_pair = in_empty
in_alike (in_leaf e) v (pair_and h no_pair) = in_leaf (sym h ∙ e)
in_alike (in_first h) v p = in_first (in_alike h v (pairs_less (λ s u e. e.0) p))
in_alike (in_second h) v p = in_second (in_alike h v (pairs_less (λ s u e. e.1) p))
in_alike (in_sequence {p = l} {q = r} {u = a} {v = b} h k) v p =
    let t = pairs_split (Same (sequence l r)) a b v p in
    subst (In (sequence l r)) t.1.1.0 (in_sequence (in_alike h t.0 (pairs_less (λ s u e. e.0) t.1.1.1.0)) (in_alike k t.1.0 (pairs_less (λ s u e. e.1) t.1.1.1.1)))
in_alike in_none v no_pair = in_none
in_alike (in_more {p = l} {u = a} {v = b} h k) v p =
    let t = pairs_split (Same l) a b v p in
    subst (In (star l)) t.1.1.0 (in_more (in_alike h t.0 t.1.1.1.0) (in_alike k t.1.0 t.1.1.1.1))

part_alike : {R : Sight → Sight → Type 0} {w v : List Sight} → Pairs R w v → (i j : ℕ) → Pairs R (part w i j) (part v i j)
part_alike p i j = pairs_take (pairs_drop p i) (j - i)

pub reads_alike : {w v : List Sight} {t : Tree} {i j : ℕ} {r : Reading} → Reads w t i j r → Pairs (Same t) w v → Reads v t i j r
reads_alike (reads_empty {i = i} h) p = reads_empty (let e = pairs_length p in subst (λ n. i ≤ n) e h)
reads_alike (reads_leaf {i = i} h k) p = reads_leaf (subst (λ n. i < n) (pairs_length p) h) (in_alike k _ (part_alike p i (suc i)))
reads_alike (reads_first h) p = reads_first (reads_alike h (pairs_less (λ s u e. e.0) p))
reads_alike (reads_second h) p = reads_second (reads_alike h (pairs_less (λ s u e. e.1) p))
reads_alike (reads_sequence h k) p = reads_sequence (reads_alike h (pairs_less (λ s u e. e.0) p)) (reads_alike k (pairs_less (λ s u e. e.1) p))
reads_alike (reads_star {i = i} {j = j} h l k) p = reads_star h (subst (λ n. j ≤ n) (pairs_length p) l) (in_alike k _ (part_alike p i j))
