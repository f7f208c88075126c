-- The words of leaf numbers are those that begin, go on and end as the tree allows.
use Rattle.std.proofs.Common.{◌≡◌, ℕ, ◌+◌, ◌<◌, ◌≤◌, true, ◌⊎◌, List, [], ◌∷◌, ◌++◌, sym, refl, ap, subst, inl, inr, ⊎_elim, arith}
use Rattle.std.proofs.lemmas.Bool.{true≢false, and_parts, and_from, or_cases, or_left, or_right}
use Rattle.rules.specs.Trees.{Tree, empty, leaf, choice, sequence, star, leaves}
use Rattle.positions.specs.Positions.{nullable, Spells, spells_empty, spells_leaf, spells_first, spells_second, spells_sequence, spells_none, spells_more}

-- leaf x can come first, last, and x directly before y
abbrev pub Begins : Tree → ℕ → ℕ → Type 0
Begins empty n x = ⊥
Begins (leaf lo hi) n x = x ≡ n
Begins (choice p q) n x = Begins p n x ⊎ Begins q (n + leaves p) x
Begins (sequence p q) n x = Begins p n x ⊎ ((nullable p ≡ true) × Begins q (n + leaves p) x)
Begins (star p) n x = Begins p n x

abbrev pub Ends : Tree → ℕ → ℕ → Type 0
Ends empty n x = ⊥
Ends (leaf lo hi) n x = x ≡ n
Ends (choice p q) n x = Ends p n x ⊎ Ends q (n + leaves p) x
Ends (sequence p q) n x = ((nullable q ≡ true) × Ends p n x) ⊎ Ends q (n + leaves p) x
Ends (star p) n x = Ends p n x

abbrev pub Follows : Tree → ℕ → ℕ → ℕ → Type 0
Follows empty n x y = ⊥
Follows (leaf lo hi) n x y = ⊥
Follows (choice p q) n x y = Follows p n x y ⊎ Follows q (n + leaves p) x y
Follows (sequence p q) n x y = (Follows p n x y ⊎ (Ends p n x × Begins q (n + leaves p) y)) ⊎ Follows q (n + leaves p) x y
Follows (star p) n x y = Follows p n x y ⊎ (Ends p n x × Begins p n y)

-- after x, the rest of a word
abbrev pub Rest : Tree → ℕ → ℕ → List ℕ → Type 0
Rest t n x [] = Ends t n x
Rest t n x (y ∷ w) = Follows t n x y × Rest t n y w

abbrev pub Whole : Tree → ℕ → List ℕ → Type 0
Whole t n [] = nullable t ≡ true
Whole t n (x ∷ w) = Begins t n x × Rest t n x w

-- leaf x is one of the tree's
abbrev pub Within : Tree → ℕ → ℕ → Type 0
Within t n x = (n ≤ x) × (x < n + leaves t)

pub begins_within : (t : Tree) (n x : ℕ) → Begins t n x → Within t n x
begins_within empty n x h = elim h [ ]
begins_within (leaf lo hi) n x h = (omega arith, omega arith)
begins_within (choice p q) n x (inl h) = let k = begins_within p n x h in (omega arith, omega arith)
begins_within (choice p q) n x (inr h) = let k = begins_within q (n + leaves p) x h in (omega arith, omega arith)
begins_within (sequence p q) n x (inl h) = let k = begins_within p n x h in (omega arith, omega arith)
begins_within (sequence p q) n x (inr h) = let k = begins_within q (n + leaves p) x h.1 in (omega arith, omega arith)
begins_within (star p) n x h = begins_within p n x h

pub ends_within : (t : Tree) (n x : ℕ) → Ends t n x → Within t n x
ends_within empty n x h = elim h [ ]
ends_within (leaf lo hi) n x h = (omega arith, omega arith)
ends_within (choice p q) n x (inl h) = let k = ends_within p n x h in (omega arith, omega arith)
ends_within (choice p q) n x (inr h) = let k = ends_within q (n + leaves p) x h in (omega arith, omega arith)
ends_within (sequence p q) n x (inl h) = let k = ends_within p n x h.1 in (omega arith, omega arith)
ends_within (sequence p q) n x (inr h) = let k = ends_within q (n + leaves p) x h in (omega arith, omega arith)
ends_within (star p) n x h = ends_within p n x h

pub follows_within : (t : Tree) (n x y : ℕ) → Follows t n x y → Within t n x × Within t n y
follows_within empty n x y h = elim h [ ]
follows_within (leaf lo hi) n x y h = elim h [ ]
follows_within (choice p q) n x y (inl h) = let k = follows_within p n x y h in omega arith
follows_within (choice p q) n x y (inr h) = let k = follows_within q (n + leaves p) x y h in omega arith
follows_within (sequence p q) n x y (inl (inl h)) = let k = follows_within p n x y h in omega arith
follows_within (sequence p q) n x y (inl (inr h)) = let k = ends_within p n x h.0 in let l = begins_within q (n + leaves p) y h.1 in omega arith
follows_within (sequence p q) n x y (inr h) = let k = follows_within q (n + leaves p) x y h in omega arith
follows_within (star p) n x y (inl h) = follows_within p n x y h
follows_within (star p) n x y (inr h) = (ends_within p n x h.0, begins_within p n y h.1)

-- a part's word goes on inside the whole
rest_first : (p q : Tree) (n x : ℕ) (w : List ℕ) → Rest p n x w → Rest (choice p q) n x w
rest_first p q n x [] h = inl h
rest_first p q n x (y ∷ w) h = (inl h.0, rest_first p q n y w h.1)

rest_second : (p q : Tree) (n x : ℕ) (w : List ℕ) → Rest q (n + leaves p) x w → Rest (choice p q) n x w
rest_second p q n x [] h = inr h
rest_second p q n x (y ∷ w) h = (inr h.0, rest_second p q n y w h.1)

rest_after : (p q : Tree) (n x : ℕ) (w : List ℕ) → Rest q (n + leaves p) x w → Rest (sequence p q) n x w
rest_after p q n x [] h = inr h
rest_after p q n x (y ∷ w) h = (inr h.0, rest_after p q n y w h.1)

rest_sequence : (p q : Tree) (n x : ℕ) (u v : List ℕ) → Rest p n x u → Whole q (n + leaves p) v → Rest (sequence p q) n x (u ++ v)
rest_sequence p q n x [] [] h k = inl (k, h)
rest_sequence p q n x [] (y ∷ v) h k = (inl (inr (h, k.0)), rest_after p q n y v k.1)
rest_sequence p q n x (y ∷ u) v h k = (inl (inl h.0), rest_sequence p q n y u v h.1 k)

rest_star : (p : Tree) (n x : ℕ) (u v : List ℕ) → Rest p n x u → Whole (star p) n v → Rest (star p) n x (u ++ v)
rest_star p n x [] [] h k = h
rest_star p n x [] (y ∷ v) h k = (inr (h, k.0), k.1)
rest_star p n x (y ∷ u) v h k = (inl h.0, rest_star p n y u v h.1 k)

whole_first : (p q : Tree) (n : ℕ) (w : List ℕ) → Whole p n w → Whole (choice p q) n w
whole_first p q n [] h = or_left (nullable p) (nullable q) h
whole_first p q n (x ∷ w) h = (inl h.0, rest_first p q n x w h.1)

whole_second : (p q : Tree) (n : ℕ) (w : List ℕ) → Whole q (n + leaves p) w → Whole (choice p q) n w
whole_second p q n [] h = or_right (nullable p) (nullable q) h
whole_second p q n (x ∷ w) h = (inr h.0, rest_second p q n x w h.1)

whole_sequence : (p q : Tree) (n : ℕ) (u v : List ℕ) → Whole p n u → Whole q (n + leaves p) v → Whole (sequence p q) n (u ++ v)
whole_sequence p q n [] [] h k = and_from (nullable p) (nullable q) h k
whole_sequence p q n [] (y ∷ v) h k = (inr (h, k.0), rest_after p q n y v k.1)
whole_sequence p q n (x ∷ u) v h k = (inl h.0, rest_sequence p q n x u v h.1 k)

whole_more : (p : Tree) (n : ℕ) (u v : List ℕ) → Whole p n u → Whole (star p) n v → Whole (star p) n (u ++ v)
whole_more p n [] v h k = k
whole_more p n (x ∷ u) v h k = (h.0, rest_star p n x u v h.1 k)

-- what is spelled begins, goes on and ends as it should
pub spells_whole : (t : Tree) (n : ℕ) (w : List ℕ) → Spells t n w → Whole t n w
spells_whole t n w (spells_empty) = refl
spells_whole t n w (spells_leaf) = (refl, refl)
spells_whole t n w (spells_first {p} {q} h) = whole_first p q n w (spells_whole p n w h)
spells_whole t n w (spells_second {p} {q} h) = whole_second p q n w (spells_whole q (n + leaves p) w h)
spells_whole t n w (spells_sequence {p} {q} {u = u} {v = v} h k) = whole_sequence p q n u v (spells_whole p n u h) (spells_whole q (n + leaves p) v k)
spells_whole t n w (spells_none) = refl
spells_whole t n w (spells_more {p} {u = u} {v = v} h k) = whole_more p n u v (spells_whole p n u h) (spells_whole (star p) n v k)

-- the other way: a word is cut where it leaves a part
choice_rest_first : (p q : Tree) (n x : ℕ) (w : List ℕ) → x < n + leaves p → Rest (choice p q) n x w → Rest p n x w
choice_rest_first p q n x [] lt (inl h) = h
choice_rest_first p q n x [] lt (inr h) = let k = ends_within q (n + leaves p) x h in absurd (omega arith)
choice_rest_first p q n x (y ∷ w) lt h =
    ⊎_elim
    (λ f. let k = follows_within p n x y f in (f, choice_rest_first p q n y w (omega arith) h.1))
    (λ f. let k = follows_within q (n + leaves p) x y f in absurd (omega arith))
    h.0

choice_rest_second : (p q : Tree) (n x : ℕ) (w : List ℕ) → n + leaves p ≤ x → Rest (choice p q) n x w → Rest q (n + leaves p) x w
choice_rest_second p q n x [] le (inr h) = h
choice_rest_second p q n x [] le (inl h) = let k = ends_within p n x h in absurd (omega arith)
choice_rest_second p q n x (y ∷ w) le h =
    ⊎_elim
    (λ f. let k = follows_within p n x y f in absurd (omega arith))
    (λ f. let k = follows_within q (n + leaves p) x y f in (f, choice_rest_second p q n y w (omega arith) h.1))
    h.0

sequence_rest_second : (p q : Tree) (n x : ℕ) (w : List ℕ) → n + leaves p ≤ x → Rest (sequence p q) n x w → Rest q (n + leaves p) x w
sequence_rest_second p q n x [] le (inr h) = h
sequence_rest_second p q n x [] le (inl h) = let k = ends_within p n x h.1 in absurd (omega arith)
sequence_rest_second p q n x (y ∷ w) le h =
    ⊎_elim
    (⊎_elim
    (λ f. let k = follows_within p n x y f in absurd (omega arith))
    (λ f. let k = ends_within p n x f.0 in absurd (omega arith)))
    (λ f. let k = follows_within q (n + leaves p) x y f in (f, sequence_rest_second p q n y w (omega arith) h.1))
    h.0

-- w is u and then v, where u goes on from x inside p, and v is as P says
pub record Cut (p : Tree) (n x : ℕ) (w : List ℕ) (P : List ℕ → Type 0) : Type 0 where
  pub front : List ℕ
  pub back : List ℕ
  pub whole : w ≡ front ++ back
  pub inside : Rest p n x front
  pub outside : P back

cut_on : (p : Tree) (n x y : ℕ) (w : List ℕ) (P : List ℕ → Type 0) → Follows p n x y → Cut p n y w P → Cut p n x (y ∷ w) P
cut_on p n x y w P f c = record { front = y ∷ c.front; back = c.back; whole = ap (λ l. y ∷ l) c.whole; inside = (f, c.inside); outside = c.outside }

sequence_rest : (p q : Tree) (n x : ℕ) (w : List ℕ) → x < n + leaves p → Rest (sequence p q) n x w → Cut p n x w (Whole q (n + leaves p))
sequence_rest p q n x [] lt (inl h) = record { front = []; back = []; whole = refl; inside = h.1; outside = h.0 }
sequence_rest p q n x [] lt (inr h) = let k = ends_within q (n + leaves p) x h in absurd (omega arith)
sequence_rest p q n x (y ∷ w) lt h =
    ⊎_elim
    (⊎_elim
    (λ f. let k = follows_within p n x y f in cut_on p n x y w _ f (sequence_rest p q n y w (omega arith) h.1))
    (λ f. let k = begins_within q (n + leaves p) y f.1 in record { front = []; back = y ∷ w; whole = refl; inside = f.0; outside = (f.1, sequence_rest_second p q n y w k.0 h.1) }))
    (λ f. let k = follows_within q (n + leaves p) x y f in absurd (omega arith))
    h.0

module _ (p : Tree) (n : ℕ) (spelled : (w : List ℕ) → Whole p n w → Spells p n w) where
  star_rest : (x : ℕ) (w : List ℕ) → Rest (star p) n x w → Cut p n x w (Spells (star p) n)
  star_rest x [] h = record { front = []; back = []; whole = refl; inside = h; outside = spells_none }
  star_rest x (y ∷ w) h =
      let c = star_rest y w h.1 in
      ⊎_elim
      (λ f. cut_on p n x y w _ f c)
      (λ f. record { front = []; back = y ∷ w; whole = refl; inside = f.0; outside = subst (λ l. Spells (star p) n (y ∷ l)) (sym c.whole) (spells_more (spelled (y ∷ c.front) (f.1, c.inside)) c.outside) })
      h.0

pub whole_spells : (t : Tree) (n : ℕ) (w : List ℕ) → Whole t n w → Spells t n w
whole_spells empty n [] h = spells_empty
whole_spells empty n (x ∷ w) h = elim h.0 [ ]
whole_spells (leaf lo hi) n [] h = absurd (true≢false (sym h))
whole_spells (leaf lo hi) n (x ∷ []) h = subst (λ y. Spells (leaf lo hi) n (y ∷ [])) (sym h.0) spells_leaf
whole_spells (leaf lo hi) n (x ∷ y ∷ w) h = elim h.1.0 [ ]
whole_spells (choice p q) n [] h = ⊎_elim (λ k. spells_first (whole_spells p n [] k)) (λ k. spells_second (whole_spells q (n + leaves p) [] k)) (or_cases (nullable p) (nullable q) h)
whole_spells (choice p q) n (x ∷ w) h =
    ⊎_elim
    (λ k. let l = begins_within p n x k in spells_first (whole_spells p n (x ∷ w) (k, choice_rest_first p q n x w l.1 h.1)))
    (λ k. let l = begins_within q (n + leaves p) x k in spells_second (whole_spells q (n + leaves p) (x ∷ w) (k, choice_rest_second p q n x w l.0 h.1)))
    h.0
whole_spells (sequence p q) n [] h = let k = and_parts (nullable p) (nullable q) h in spells_sequence (whole_spells p n [] k.0) (whole_spells q (n + leaves p) [] k.1)
whole_spells (sequence p q) n (x ∷ w) h =
    ⊎_elim
    (λ k.
    let l = begins_within p n x k in
    let c = sequence_rest p q n x w l.1 h.1 in
    subst (λ l. Spells (sequence p q) n (x ∷ l)) (sym c.whole) (spells_sequence (whole_spells p n (x ∷ c.front) (k, c.inside)) (whole_spells q (n + leaves p) c.back c.outside)))
    (λ k.
    let l = begins_within q (n + leaves p) x k.1 in
    spells_sequence (whole_spells p n [] k.0) (whole_spells q (n + leaves p) (x ∷ w) (k.1, sequence_rest_second p q n x w l.0 h.1)))
    h.0
whole_spells (star p) n [] h = spells_none
whole_spells (star p) n (x ∷ w) h =
    let c = star_rest p n (whole_spells p n) x w h.1 in
    subst (λ l. Spells (star p) n (x ∷ l)) (sym c.whole) (spells_more (whole_spells p n (x ∷ c.front) (h.0, c.inside)) c.outside)
