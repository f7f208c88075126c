-- Parts of a name: how the names of a tree split over the places of one name.
use Rattle.std.proofs.Common.{◌≡◌, ℕ, zero, suc, ◌+◌, ◌-◌, ◌<◌, ◌≤◌, true, ◌⊎◌, ◌↔◌, List, [], ◌∷◌, ◌++◌, length, take, drop, sym, refl, ap, ◌∙◌, subst, inl, inr, suc-add, zero-add, arith, length-append, length-drop, length-take}
use Rattle.std.proofs.lemmas.List.{drop-drop, drop-take, take-take, take_at, drop_at, take_all}
use Rattle.rules.specs.Trees.{Tree, empty, leaf, choice, sequence, star}
use Rattle.rules.specs.Languages.{Sight, In, in_empty, in_leaf, in_first, in_second, in_sequence, in_none, in_more, part}

-- What a name of a tree is, by the tree's shape.
abbrev pub InCases : Tree → List Sight → Type 0
InCases empty w = w ≡ []
InCases (leaf lo hi) w = (s : Sight) × (w ≡ s ∷ []) × (s lo hi ≡ true)
InCases (choice p q) w = In p w ⊎ In q w
InCases (sequence p q) w = (u : List Sight) × (v : List Sight) × (w ≡ u ++ v) × In p u × In q v
InCases (star p) w = (w ≡ []) ⊎ ((s : Sight) × (u : List Sight) × (v : List Sight) × (w ≡ s ∷ (u ++ v)) × In p (s ∷ u) × In (star p) v)

-- one more round, first of all a round that may have no symbol
round : {p : Tree} (u v : List Sight) → In p u → In (star p) v → InCases (star p) v → InCases (star p) (u ++ v)
round [] v a b c = c
round (s ∷ u) v a b c = inr (s, u, v, refl, a, b)

pub in_cases : {t : Tree} {w : List Sight} → In t w → InCases t w
in_cases in_empty = refl
in_cases (in_leaf {s = s} h) = (s, refl, h)
in_cases (in_first a) = inl a
in_cases (in_second a) = inr a
in_cases (in_sequence {u = u} {v = v} a b) = (u, v, refl, a, b)
in_cases in_none = inl refl
in_cases (in_more {u = u} {v = v} a b) = round u v a b (in_cases b)

-- the first a and the next b
pub take_and_take : {A : Type 0} (a b : ℕ) (l : List A) → take a l ++ take b (drop a l) ≡ take (a + b) l
take_and_take zero b l = rw zero-add
take_and_take (suc a) zero [] = rw suc-add
take_and_take (suc a) (suc b) [] = rw suc-add
take_and_take {A = A} (suc a) b (x ∷ l) = rw suc-add (ap {B = List A} (λ r. x ∷ r) (take_and_take a b l))

pub part_join : (w : List Sight) (i k j : ℕ) → i ≤ k → k ≤ j → part w i k ++ part w k j ≡ part w i j
part_join w i k j a b =
    let e : drop k w ≡ drop (k - i) (drop i w) = let f : i + (k - i) ≡ k = omega arith in rw drop-drop (rw f) in
    let g : (k - i) + (j - k) ≡ j - i = omega arith in
    rw e (rw (take_and_take (k - i) (j - k) (drop i w)) (rw g))

pub length_part : (w : List Sight) (i j : ℕ) → i ≤ j → j ≤ length w → length (part w i j) ≡ j - i
length_part w i j a b = rw (length-take, length-drop) (omega arith)

-- a part cut in two is cut at a place
pub part_cut : (w : List Sight) (i j : ℕ) → i ≤ j → j ≤ length w → (u v : List Sight) → part w i j ≡ u ++ v
    → (i + length u ≤ j) × (u ≡ part w i (i + length u)) × (v ≡ part w (i + length u) j)
part_cut w i j a b u v e =
    let n = length u in
    let l : j - i ≡ n + length v = sym (length_part w i j a b) ∙ ap length e ∙ length-append u v in
    let h : i + n ≤ j = omega arith in
    let f : (i + n) - i ≡ n = omega arith in
    let m : n ≤ j - i = omega arith in
    let g : j - i ≡ n + (j - (i + n)) = omega arith in
    let c : take n (u ++ v) ≡ u = take_at u v n refl in
    let d : drop n (u ++ v) ≡ v = drop_at u v n refl in
    let c2 : take n (part w i j) ≡ take n (drop i w) = take-take n (j - i) (drop i w) m in
    let d2 : drop n (part w i j) ≡ take (j - (i + n)) (drop n (drop i w)) = rw g (drop-take n (j - (i + n)) (drop i w)) in
    let d3 : drop n (drop i w) ≡ drop (i + n) w = drop-drop n i w in
    (h, rw f (sym c ∙ ap (λ (z : List Sight). take n z) (sym e) ∙ c2), sym d ∙ ap (λ (z : List Sight). drop n z) (sym e) ∙ d2 ∙ ap (λ (z : List Sight). take (j - (i + n)) z) d3)

-- A sequence, split at a place
abbrev pub Split : List Sight → Tree → Tree → ℕ → ℕ → Type 0
Split w p q i j = (k : ℕ) × (i ≤ k) × (k ≤ j) × In p (part w i k) × In q (part w k j)

pub sequence_split : (w : List Sight) (p q : Tree) (i j : ℕ) → i ≤ j → j ≤ length w → In (sequence p q) (part w i j) → Split w p q i j
sequence_split w p q i j a b h =
    let c : InCases (sequence p q) (part w i j) = in_cases h in
    let d = part_cut w i j a b c.0 c.1 c.2 in
    (i + length c.0, omega arith, d.0, subst (λ (z : List Sight). In p z) d.1 c.3, subst (λ (z : List Sight). In q z) d.2 c.4)

pub sequence_join : (w : List Sight) (p q : Tree) (i j k : ℕ) → i ≤ k → k ≤ j → In p (part w i k) → In q (part w k j) → In (sequence p q) (part w i j)
sequence_join w p q i j k a b x y = subst (λ (z : List Sight). In (sequence p q) z) (part_join w i k j a b) (in_sequence x y)

-- a part of no symbol
pub part_nil : (w : List Sight) (i : ℕ) → part w i i ≡ []
part_nil w i = let e : i - i ≡ 0 = omega arith in rw e

pub part_nil_ends : (w : List Sight) (i j : ℕ) → i ≤ j → j ≤ length w → part w i j ≡ [] → i ≡ j
part_nil_ends w i j a b e = let l : j - i ≡ 0 = sym (length_part w i j a b) ∙ ap length e in omega arith

pub empty_part : (w : List Sight) (i j : ℕ) → i ≤ j → j ≤ length w → In empty (part w i j) → i ≡ j
empty_part w i j a b h = part_nil_ends w i j a b (in_cases h)

pub empty_here : (w : List Sight) (i : ℕ) → In empty (part w i i)
empty_here w i = rw part_nil in_empty

pub leaf_part : (w : List Sight) (lo hi i j : ℕ) → i ≤ j → j ≤ length w → In (leaf lo hi) (part w i j) → j ≡ suc i
leaf_part w lo hi i j a b h =
    let c : InCases (leaf lo hi) (part w i j) = in_cases h in
    let l : j - i ≡ 1 = sym (length_part w i j a b) ∙ ap length c.1 in
    omega arith

-- A star: nothing, or a first round that takes a symbol
abbrev pub Rounds : List Sight → Tree → ℕ → ℕ → Type 0
Rounds w p i j = (i ≡ j) ⊎ ((k : ℕ) × (i < k) × (k ≤ j) × In p (part w i k) × In (star p) (part w k j))

star_cut : (w : List Sight) (p : Tree) (i j : ℕ) → i ≤ j → j ≤ length w → InCases (star p) (part w i j) → Rounds w p i j
star_cut w p i j a b (inl e) = inl (part_nil_ends w i j a b e)
star_cut w p i j a b (inr c) =
    let d = part_cut w i j a b (c.0 ∷ c.1) c.2 c.3 in
    inr (i + suc (length c.1), omega arith, d.0, subst (λ (z : List Sight). In p z) d.1 c.4, subst (λ (z : List Sight). In (star p) z) d.2 c.5)

pub star_split : (w : List Sight) (p : Tree) (i j : ℕ) → i ≤ j → j ≤ length w → In (star p) (part w i j) → Rounds w p i j
star_split w p i j a b h = star_cut w p i j a b (in_cases h)

pub star_here : (w : List Sight) (p : Tree) (i : ℕ) → In (star p) (part w i i)
star_here w p i = rw part_nil in_none

pub star_join : (w : List Sight) (p : Tree) (i j k : ℕ) → i ≤ k → k ≤ j → In p (part w i k) → In (star p) (part w k j) → In (star p) (part w i j)
star_join w p i j k a b x y = subst (λ (z : List Sight). In (star p) z) (part_join w i k j a b) (in_more x y)

-- the whole name
pub part_whole : (w : List Sight) → part w 0 (length w) ≡ w
part_whole w = let e : length w - 0 ≡ length w = omega arith in rw e (take_all (length w) w (omega arith))

-- The parts of a name that are names of a tree, by the tree's shape
pub empty_parts : (w : List Sight) (i j : ℕ) → i ≤ j → j ≤ length w → In empty (part w i j) ↔ (i ≡ j)
empty_parts w i j a b = (empty_part w i j a b, λ e. subst (λ (z : ℕ). In empty (part w i z)) e (empty_here w i))

pub choice_parts : (w : List Sight) (p q : Tree) (i j : ℕ) → In (choice p q) (part w i j) ↔ (In p (part w i j) ⊎ In q (part w i j))
choice_parts w p q i j = (λ h. in_cases h, elim [ inl a ↦ in_first a | inr a ↦ in_second a ])

rounds_in : (w : List Sight) (p : Tree) (i j : ℕ) → Rounds w p i j → In (star p) (part w i j)
rounds_in w p i j (inl e) = subst (λ (z : ℕ). In (star p) (part w i z)) e (star_here w p i)
rounds_in w p i j (inr s) = star_join w p i j s.0 (omega arith) s.2 s.3 s.4

pub star_parts : (w : List Sight) (p : Tree) (i j : ℕ) → i ≤ j → j ≤ length w → In (star p) (part w i j) ↔ Rounds w p i j
star_parts w p i j a b = (star_split w p i j a b, rounds_in w p i j)
