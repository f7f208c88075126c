-- Readings: where they stand, what they say of a name, and that each name of a tree has one.
use Rattle.std.proofs.Common.{◌≡◌, ℕ, suc, ◌+◌, ◌<◌, ◌≤◌, ◌⊎◌, ◌↔◌, List, [], ◌∷◌, ◌++◌, length, replicate, None, Option, sym, refl, ap, ◌∙◌, subst, inl, inr, le_refl, arith, length-append}
use lib.ListN.{length-replicate}
use Rattle.rules.specs.Trees.{Tree, empty, leaf, choice, sequence, star, size, rows}
use Rattle.rules.specs.Languages.{Sight, In, in_first, in_second, part}
use Rattle.rules.specs.Readings.{Reading, Reads, reads_empty, reads_leaf, reads_first, reads_second, reads_sequence, reads_star, stretch, nothing, ReadsWhole}
use Rattle.rules.proofs.Parts.{InCases, in_cases, sequence_split, sequence_join, empty_part, empty_here, leaf_part, part_whole}
use Rattle.rules.proofs.RowFacts.{length_rows}

-- What a reading is, by the tree's shape.
abbrev pub ReadsCases : List Sight → Tree → ℕ → ℕ → Reading → Type 0
ReadsCases w empty i j r = (j ≡ i) × (r ≡ stretch i j ∷ []) × (i ≤ length w)
ReadsCases w (leaf lo hi) i j r = (j ≡ suc i) × (r ≡ stretch i j ∷ []) × (i < length w) × In (leaf lo hi) (part w i j)
ReadsCases w (choice p q) i j r = ((x : Reading) × Reads w p i j x × (r ≡ stretch i j ∷ (x ++ nothing q))) ⊎ ((x : Reading) × Reads w q i j x × (r ≡ stretch i j ∷ (nothing p ++ x)))
ReadsCases w (sequence p q) i j r = (k : ℕ) × (x : Reading) × (y : Reading) × Reads w p i k x × Reads w q k j y × (r ≡ stretch i j ∷ (x ++ y))
ReadsCases w (star p) i j r = (i ≤ j) × (j ≤ length w) × In (star p) (part w i j) × (r ≡ stretch i j ∷ nothing p)

pub reads_cases : {w : List Sight} {t : Tree} {i j : ℕ} {r : Reading} → Reads w t i j r → ReadsCases w t i j r
reads_cases (reads_empty h) = (refl, refl, h)
reads_cases (reads_leaf h a) = (refl, refl, h, a)
reads_cases (reads_first {r = x} a) = inl (x, a, refl)
reads_cases (reads_second {r = x} a) = inr (x, a, refl)
reads_cases (reads_sequence {k = k} {r = x} {s = y} a b) = (k, x, y, a, b, refl)
reads_cases (reads_star h l a) = (h, l, a, refl)

-- a reading begins with the node's own stretch
abbrev pub Headed : ℕ → ℕ → Reading → Type 0
Headed i j r = (x : Reading) × (r ≡ stretch i j ∷ x)

pub reads_head : {w : List Sight} {t : Tree} {i j : ℕ} {r : Reading} → Reads w t i j r → Headed i j r
reads_head (reads_empty h) = ([], refl)
reads_head (reads_leaf h a) = ([], refl)
reads_head (reads_first {q = q} {r = x} a) = (x ++ nothing q, refl)
reads_head (reads_second {p = p} {r = x} a) = (nothing p ++ x, refl)
reads_head (reads_sequence {r = x} {s = y} a b) = (x ++ y, refl)
reads_head (reads_star {p = p} h l a) = (nothing p, refl)

pub reads_ordered : {w : List Sight} {t : Tree} {i j : ℕ} {r : Reading} → Reads w t i j r → i ≤ j
reads_ordered (reads_empty {i = i} h) = le_refl i
reads_ordered (reads_leaf h a) = omega arith
reads_ordered (reads_first a) = reads_ordered a
reads_ordered (reads_second a) = reads_ordered a
reads_ordered (reads_sequence a b) = let x = reads_ordered a in let y = reads_ordered b in omega arith
reads_ordered (reads_star h l a) = h

pub reads_within : {w : List Sight} {t : Tree} {i j : ℕ} {r : Reading} → Reads w t i j r → j ≤ length w
reads_within (reads_empty h) = h
reads_within (reads_leaf h a) = h
reads_within (reads_first a) = reads_within a
reads_within (reads_second a) = reads_within a
reads_within (reads_sequence a b) = reads_within b
reads_within (reads_star h l a) = l

pub reads_in : {w : List Sight} {t : Tree} {i j : ℕ} {r : Reading} → Reads w t i j r → In t (part w i j)
reads_in {w} (reads_empty {i = i} h) = empty_here w i
reads_in (reads_leaf h a) = a
reads_in (reads_first a) = in_first (reads_in a)
reads_in (reads_second a) = in_second (reads_in a)
reads_in {w} (reads_sequence {p = p} {q = q} {i = i} {k = k} {j = j} a b) = sequence_join w p q i j k (reads_ordered a) (reads_ordered b) (reads_in a) (reads_in b)
reads_in (reads_star h l a) = a

pub reads_length : {w : List Sight} {t : Tree} {i j : ℕ} {r : Reading} → Reads w t i j r → length r ≡ size t
reads_length (reads_empty h) = refl
reads_length (reads_leaf h a) = refl
reads_length (reads_first {q = q} {r = x} a) = let l = reads_length a in omega (arith, length-append x (nothing q), length-replicate {A = Option (ℕ × ℕ)} (size q) None)
reads_length (reads_second {p = p} {r = x} a) = let l = reads_length a in omega (arith, length-append (nothing p) x, length-replicate {A = Option (ℕ × ℕ)} (size p) None)
reads_length (reads_sequence {r = x} {s = y} a b) = let l = reads_length a in let m = reads_length b in omega (arith, length-append x y)
reads_length (reads_star {p = p} h l a) = ap suc (length-replicate {A = Option (ℕ × ℕ)} (size p) None)

-- each part of a name that is a name of the tree has a reading
pub reads_exists : (w : List Sight) (t : Tree) (i j : ℕ) → i ≤ j → j ≤ length w → In t (part w i j) → (r : Reading) × Reads w t i j r
reads_exists w empty i j a b h = let e : i ≡ j = empty_part w i j a b h in (stretch i i ∷ [], subst (λ (z : ℕ). Reads w empty i z (stretch i i ∷ [])) e (reads_empty (omega arith)))
reads_exists w (leaf lo hi) i j a b h =
    let e : j ≡ suc i = leaf_part w lo hi i j a b h in
    (stretch i (suc i) ∷ [], subst (λ (z : ℕ). Reads w (leaf lo hi) i z (stretch i (suc i) ∷ [])) (sym e) (reads_leaf (omega arith) (subst (λ (z : ℕ). In (leaf lo hi) (part w i z)) e h)))
reads_exists w (choice p q) i j a b h = go (in_cases h) (reads_exists w p i j a b) (reads_exists w q i j a b)
  where
    go : InCases (choice p q) (part w i j) → (In p (part w i j) → (r : Reading) × Reads w p i j r) → (In q (part w i j) → (r : Reading) × Reads w q i j r) → (r : Reading) × Reads w (choice p q) i j r
    go (inl x) f g = let c = f x in (stretch i j ∷ (c.0 ++ nothing q), reads_first c.1)
    go (inr x) f g = let c = g x in (stretch i j ∷ (nothing p ++ c.0), reads_second c.1)
reads_exists w (sequence p q) i j a b h =
    let s = sequence_split w p q i j a b h in
    let x = reads_exists w p i s.0 s.1 (omega arith) s.3 in
    let y = reads_exists w q s.0 j s.2 b s.4 in
    (stretch i j ∷ (x.0 ++ y.0), reads_sequence x.1 y.1)
reads_exists w (star p) i j a b h = (stretch i j ∷ nothing p, reads_star a b h)

-- as many entries as rows
pub length_nothing : (t : Tree) → length (nothing t) ≡ size t
length_nothing t = length-replicate {A = Option (ℕ × ℕ)} (size t) None

pub reads_rows : {w : List Sight} {t : Tree} {i j : ℕ} {r : Reading} → Reads w t i j r → length (rows t) ≡ length r
reads_rows {t = t} a = length_rows t ∙ sym (reads_length a)

pub nothing_head : (t : Tree) → (x : Reading) × (nothing t ≡ None ∷ x)
nothing_head empty = ([], refl)
nothing_head (leaf lo hi) = ([], refl)
nothing_head (choice p q) = (replicate (size p + size q) None, refl)
nothing_head (sequence p q) = (replicate (size p + size q) None, refl)
nothing_head (star p) = (nothing p, refl)

pub nothing_rows : (t : Tree) → length (rows t) ≡ length (nothing t)
nothing_rows t = length_rows t ∙ sym (length_nothing t)

-- a name has a reading exactly where it is one of the rule's
pub readings_exactly : (t : Tree) (w : List Sight) → In t w ↔ ((r : Reading) × ReadsWhole w t r)
readings_exactly t w = (
  (λ h. reads_exists w t 0 (length w) (omega arith) (omega arith) (rw part_whole h)),
  (λ d. rw part_whole at (reads_in d.1)),
)
