-- Whether a name is a name of a tree, decided.
use Rattle.std.proofs.Common.{◌≡◌, ℕ, zero, suc, ◌+◌, ◌<◌, ◌≤◌, Bool, true, false, ◌⊎◌, List, [], ◌∷◌, ◌++◌, length, sym, refl, ap, ◌∙◌, subst, inl, inr, le_refl, le_of_suc-le-suc, arith, length-append}
use native.Mathlib.Decide.{dec_le, map_dec}
use borrow.Author.Tests.{clash}
use Rattle.rules.specs.Trees.{Tree, empty, leaf, choice, sequence, star}
use Rattle.rules.specs.Languages.{Sight, In, in_empty, in_leaf, in_first, in_second, in_sequence, in_none, in_more, part}
use Rattle.rules.proofs.Parts.{InCases, in_cases, Split}

zero_not_one : ◌≡◌ {A = ℕ} 0 1 → ⊥
zero_not_one e = omega arith

none_below : {n : ℕ} → suc n ≤ 0 → ⊥
none_below h = omega arith

cons_not_nil : {A : Type 0} {x : A} {l : List A} → x ∷ l ≡ [] → ⊥
cons_not_nil {l = l} e = let f : suc (length l) ≡ 0 = ap length e in omega arith

-- a list cut in two, the first part by P and the second by Q
abbrev Cut : {A : Type 0} → (List A → Type 0) → (List A → Type 0) → List A → Type 0
Cut {A} P Q w = (u : List A) × (v : List A) × (w ≡ u ++ v) × P u × Q v

both : {A B : Type 0} → Dec A → Dec B → Dec (A × B)
both (yes a) (yes b) = yes (a, b)
both (yes a) (no n) = no (λ h. n h.1)
both (no n) d = no (λ h. n h.0)

either : {A B : Type 0} → Dec A → Dec B → Dec (A ⊎ B)
either (yes a) d = yes (inl a)
either (no n) (yes b) = yes (inr b)
either (no n) (no m) = no (elim [ inl a ↦ n a | inr b ↦ m b ])

cut_nil : {A : Type 0} (P Q : List A → Type 0) → (u v : List A) → [] ≡ u ++ v → P u → Q v → P [] × Q []
cut_nil P Q [] v e a b = (a, subst Q (sym e) b)
cut_nil {A} P Q (x ∷ u) v e a b = let f : ◌≡◌ {A = ℕ} 0 1 = cc in absurd (zero_not_one f)

cut_cons : {A : Type 0} (P Q : List A → Type 0) (x : A) (w u v : List A) → x ∷ w ≡ u ++ v → P u → Q v → (P [] × Q (x ∷ w)) ⊎ Cut (λ u. P (x ∷ u)) Q w
cut_cons P Q x w [] v e a b = inl (a, subst Q (sym e) b)
cut_cons {A} P Q x w (y ∷ u) v e a b =
    let f : y ≡ x = cc in
    let g : w ≡ u ++ v = cc in
    inr (u, v, g, subst (λ (z : A). P (z ∷ u)) f a, b)

uncut_cons : {A : Type 0} (P Q : List A → Type 0) (x : A) (w : List A) → (P [] × Q (x ∷ w)) ⊎ Cut (λ u. P (x ∷ u)) Q w → Cut P Q (x ∷ w)
uncut_cons P Q x w (inl h) = ([], x ∷ w, refl, h.0, h.1)
uncut_cons {A} P Q x w (inr h) = (x ∷ h.0, h.1, ap {B = List A} (λ r. x ∷ r) h.2, h.3, h.4)

cut_decides : {A : Type 0} (P Q : List A → Type 0) → ((u : List A) → Dec (P u)) → ((v : List A) → Dec (Q v)) → (w : List A) → Dec (Cut P Q w)
cut_decides P Q dp dq [] = map_dec (λ h. ([], [], refl, h.0, h.1)) (λ c. cut_nil P Q c.0 c.1 c.2 c.3 c.4) (both (dp []) (dq []))
cut_decides P Q dp dq (x ∷ w) =
    map_dec (uncut_cons P Q x w) (λ c. cut_cons P Q x w c.0 c.1 c.2 c.3 c.4)
    (either (both (dp []) (dq (x ∷ w))) (cut_decides (λ u. P (x ∷ u)) Q (λ u. dp (x ∷ u)) dq w))

-- a name of one symbol
leaf_decides : (lo hi : ℕ) (w : List Sight) → Dec (In (leaf lo hi) w)
leaf_decides lo hi [] = no (λ h. let c : InCases (leaf lo hi) [] = in_cases h in let e : ◌≡◌ {A = ℕ} 0 1 = ap length c.1 in zero_not_one e)
leaf_decides lo hi (s ∷ []) = by_sight (s lo hi) refl
  where
    by_sight : (b : Bool) → s lo hi ≡ b → Dec (In (leaf lo hi) (s ∷ []))
    by_sight true e = yes (in_leaf e)
    by_sight false e = no (λ h.
        let c : InCases (leaf lo hi) (s ∷ []) = in_cases h in
        let f : s ≡ c.0 = cc c.1 in
        let g : false ≡ true = sym e ∙ ap (λ (z : Sight). z lo hi) f ∙ c.2 in
        clash g)
leaf_decides lo hi (s ∷ r ∷ w) = no (λ h. let c : InCases (leaf lo hi) (s ∷ r ∷ w) = in_cases h in let e : suc (suc (length w)) ≡ 1 = ap length c.1 in omega arith)

empty_decides : (w : List Sight) → Dec (In empty w)
empty_decides [] = yes in_empty
empty_decides (s ∷ w) = no (λ h. let e : suc (length w) ≡ 0 = ap length (in_cases h) in omega arith)

-- a first round that begins with the symbol s, and then rounds of at most n symbols
abbrev Small : Tree → ℕ → List Sight → Type 0
Small p n v = (length v ≤ n) × In (star p) v

small_decides : (p : Tree) (n : ℕ) → ((v : List Sight) → length v ≤ n → Dec (In (star p) v)) → (v : List Sight) → Dec (length v ≤ n) → Dec (Small p n v)
small_decides p n d v (yes l) = map_dec (λ a. (l, a)) (λ a. a.1) (d v l)
small_decides p n d v (no l) = no (λ a. l a.0)

round_in : (p : Tree) (n : ℕ) (s : Sight) (w : List Sight) → Cut (λ u. In p (s ∷ u)) (Small p n) w → In (star p) (s ∷ w)
round_in p n s w c = subst (λ (z : List Sight). In (star p) (s ∷ z)) (sym c.2) (in_more c.3 c.4.1)

round_out : (p : Tree) (n : ℕ) (s : Sight) (w : List Sight) → length w ≤ n → InCases (star p) (s ∷ w) → Cut (λ u. In p (s ∷ u)) (Small p n) w
round_out p n s w l (inl e) = absurd (cons_not_nil e)
round_out p n s w l (inr c) =
    let e : c.0 ≡ s = cc c.3 in
    let f : w ≡ c.1 ++ c.2 = cc c.3 in
    let g : length w ≡ length c.1 + length c.2 = ap length f ∙ length-append c.1 c.2 in
    (c.1, c.2, f, subst (λ (z : Sight). In p (z ∷ c.1)) e c.4, (omega arith, c.5))

-- a star, on names of at most n symbols
star_decides : (p : Tree) → ((u : List Sight) → Dec (In p u)) → (n : ℕ) (w : List Sight) → length w ≤ n → Dec (In (star p) w)
star_decides p dp zero [] h = yes in_none
star_decides p dp zero (s ∷ w) h = absurd (none_below h)
star_decides p dp (suc n) [] h = yes in_none
star_decides p dp (suc n) (s ∷ w) h =
    map_dec (round_in p n s w) (λ a. round_out p n s w (le_of_suc-le-suc h) (in_cases a))
    (cut_decides (λ u. In p (s ∷ u)) (Small p n) (λ u. dp (s ∷ u)) (λ v. small_decides p n (star_decides p dp n) v (dec_le (length v) n)) w)

pub decides : (t : Tree) (w : List Sight) → Dec (In t w)
decides empty w = empty_decides w
decides (leaf lo hi) w = leaf_decides lo hi w
decides (choice p q) w = map_dec (elim [ inl a ↦ in_first a | inr b ↦ in_second b ]) (λ h. in_cases h) (either (decides p w) (decides q w))
decides (sequence p q) w =
    map_dec (λ c. subst (λ (z : List Sight). In (sequence p q) z) (sym c.2) (in_sequence c.3 c.4)) (λ h. in_cases h)
    (cut_decides (In p) (In q) (decides p) (decides q) w)
decides (star p) w = star_decides p (decides p) (length w) w (le_refl (length w))

-- The greatest place up to j with a property that is decided, given one place that has it
abbrev pub Greatest : (ℕ → Type 0) → ℕ → Type 0
Greatest P j = (k : ℕ) × (k ≤ j) × P k × ((m : ℕ) → k < m → m ≤ j → P m → ⊥)

pub greatest : (P : ℕ → Type 0) → ((m : ℕ) → Dec (P m)) → (j k : ℕ) → k ≤ j → P k → Greatest P j
greatest P d zero k h a =
    let e : k ≡ 0 = omega arith in
    (0, omega arith, subst P e a, λ m l u x. let f : m < m = omega arith in omega arith)
greatest P d (suc j) k h a = step (d (suc j)) (λ l. greatest P d j k l a)
  where
    step : Dec (P (suc j)) → (k ≤ j → Greatest P j) → Greatest P (suc j)
    step (yes b) next = (suc j, le_refl (suc j), b, λ m l u x. omega arith)
    step (no n) next =
        let ne : k ≡ suc j → ⊥ = λ e. n (subst P e a) in
        let l : k ≤ j = omega arith in
        let g = next l in
        (g.0, omega arith, g.2, λ m lo u x. below g.3 n m lo u x)
      where
        below : {c : ℕ} → ((m : ℕ) → c < m → m ≤ j → P m → ⊥) → (P (suc j) → ⊥) → (m : ℕ) → c < m → m ≤ suc j → P m → ⊥
        below f n m lo u x =
            let ne : m ≡ suc j → ⊥ = λ e. n (subst P e x) in
            let l : m ≤ j = omega arith in
            f m lo l x

-- the places where a sequence splits
abbrev pub SplitAt : List Sight → Tree → Tree → ℕ → ℕ → ℕ → Type 0
SplitAt w p q i j m = (i ≤ m) × In p (part w i m) × In q (part w m j)

split_at : (w : List Sight) (p q : Tree) (i j m : ℕ) → Dec (SplitAt w p q i j m)
split_at w p q i j m = go (dec_le i m) (decides p (part w i m)) (decides q (part w m j))
  where
    go : Dec (i ≤ m) → Dec (In p (part w i m)) → Dec (In q (part w m j)) → Dec (SplitAt w p q i j m)
    go (yes a) (yes b) (yes c) = yes (a, b, c)
    go (yes a) (yes b) (no c) = no (λ h. c h.2)
    go (yes a) (no b) c = no (λ h. b h.1)
    go (no a) b c = no (λ h. a h.0)

pub longest_split : (w : List Sight) (p q : Tree) (i j : ℕ) → Split w p q i j → Greatest (SplitAt w p q i j) j
longest_split w p q i j s = greatest (SplitAt w p q i j) (split_at w p q i j) j s.0 s.2 (s.1, s.3, s.4)
