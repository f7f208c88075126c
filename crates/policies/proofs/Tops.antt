-- Readings that are above every other of their stretch, by the order of a key.
use Rattle.std.proofs.Common.{◌≡◌, ℕ, ◌≤◌, true, ◌⊎◌, List, ◌∷◌, ◌++◌, length, sym, refl, ap, subst, ap₂, inl, inr, arith}
use Rattle.rules.specs.Trees.{Tree, choice, sequence, rows}
use Rattle.rules.specs.Languages.{Sight, In, part}
use Rattle.rules.specs.Readings.{Reading, Reads, stretch, nothing}
use Rattle.rules.proofs.Parts.{part_whole}
use Rattle.rules.proofs.ReadingFacts.{ReadsCases, reads_in, reads_rows, nothing_rows}
use Rattle.policies.specs.Orders.{Best}
use Rattle.policies.specs.Keys.{Key, Faithful, keys, lex_above, above_by}
use Rattle.policies.specs.Theorems.{Relation, Prefers}
use Rattle.policies.specs.Lex.{lex_one, lex_not_both, lex_one_not_above}
use Rattle.policies.specs.KeyFacts.{tells, whole_first, whole_second, first_above_second}

abbrev pub Above : Key → Tree → Reading → Reading → Type 0
Above key t x y = lex_above (keys key (rows t) x) (keys key (rows t) y) ≡ true

-- y is r, or r is above it
abbrev pub AtMost : Key → Tree → Reading → Reading → Type 0
AtMost key t y r = (y ≡ r) ⊎ Above key t r y

-- r is above every other reading on the stretch
abbrev pub Top : Key → List Sight → Tree → ℕ → ℕ → Reading → Type 0
Top key w t i j r = (y : Reading) → Reads w t i j y → AtMost key t y r

pub at_most : (key : Key) (t : Tree) (y z r : Reading) → y ≡ z → AtMost key t z r → AtMost key t y r
at_most key t y z r e h = subst (λ (u : Reading). AtMost key t u r) (sym e) h

-- a choice, read by its first part
pub top_first : {key : Key} → Faithful key → {w : List Sight} (p q : Tree) {i j : ℕ} (r y : Reading) → Reads w p i j r → Top key w p i j r → ReadsCases w (choice p q) i j y
    → AtMost key (choice p q) y (stretch i j ∷ (r ++ nothing q))
top_first {key} f {w} p q {i} {j} r y a h (inl c) = at_most key (choice p q) y _ _ c.2 (go (h c.0 c.1))
  where
    go : AtMost key p c.0 r → AtMost key (choice p q) (stretch i j ∷ (c.0 ++ nothing q)) (stretch i j ∷ (r ++ nothing q))
    go (inl e) = inl (ap {B = Reading} (λ (z : Reading). stretch i j ∷ (z ++ nothing q)) e)
    go (inr g) = inr (whole_first key 2 p (rows q) (stretch i j) (stretch i j) r (nothing q) c.0 (nothing q) refl (reads_rows a) (reads_rows c.1) g)
top_first {key} f {w} p q {i} {j} r y a h (inr c) = at_most key (choice p q) y _ _ c.2 (inr (first_above_second f a q (stretch i j) (stretch i j) (nothing q) c.0 refl))

-- a choice, read by its second part for want of a first
pub top_second : (key : Key) {w : List Sight} (p q : Tree) {i j : ℕ} (r y : Reading) → Top key w q i j r → (In p (part w i j) → ⊥) → ReadsCases w (choice p q) i j y
    → AtMost key (choice p q) y (stretch i j ∷ (nothing p ++ r))
top_second key {w} p q {i} {j} r y h n (inl c) = absurd (n (reads_in c.1))
top_second key {w} p q {i} {j} r y h n (inr c) = at_most key (choice p q) y _ _ c.2 (go (h c.0 c.1))
  where
    go : AtMost key q c.0 r → AtMost key (choice p q) (stretch i j ∷ (nothing p ++ c.0)) (stretch i j ∷ (nothing p ++ r))
    go (inl e) = inl (ap {B = Reading} (λ (z : Reading). stretch i j ∷ (nothing p ++ z)) e)
    go (inr g) = inr (whole_second key 2 p (rows q) (stretch i j) (stretch i j) (nothing p) r c.0 refl (nothing_rows p) g)

-- a sequence: the first part decides, or is the same and leaves it to the second
pub top_pair : (key : Key) {w : List Sight} (p q : Tree) (i k m j : ℕ) (r s x z : Reading) → Reads w p i k r → Reads w p i m x → Above key p r x ⊎ ((x ≡ r) × AtMost key q z s)
    → AtMost key (sequence p q) (stretch i j ∷ (x ++ z)) (stretch i j ∷ (r ++ s))
top_pair key p q i k m j r s x z a b (inl g) = inr (whole_first key 3 p (rows q) (stretch i j) (stretch i j) r s x z refl (reads_rows a) (reads_rows b) g)
top_pair key p q i k m j r s x z a b (inr (e, inl d)) = inl (ap₂ {C = Reading} (λ (u v : Reading). stretch i j ∷ (u ++ v)) e d)
top_pair key p q i k m j r s x z a b (inr (e, inr g)) =
    inr (subst (λ (u : Reading). Above key (sequence p q) (stretch i j ∷ (r ++ s)) (stretch i j ∷ (u ++ z))) (sym e) (whole_second key 3 p (rows q) (stretch i j) (stretch i j) r s z refl (reads_rows a) g))

-- two readings that are both above every other are one
top_unique : (key : Key) {w : List Sight} (t : Tree) {i j : ℕ} (r s : Reading) → Reads w t i j r → Reads w t i j s → Top key w t i j r → Top key w t i j s → r ≡ s
top_unique key {w} t {i} {j} r s a b hr hs = go (hr s b) (hs r a)
  where
    go : AtMost key t s r → AtMost key t r s → r ≡ s
    go (inl e) d = sym e
    go (inr e) (inl d) = d
    go (inr e) (inr d) = absurd (lex_not_both (keys key (rows t) r) (keys key (rows t) s) e d)

top_best : (key : Key) (t : Tree) (w : List Sight) (r : Reading) → Reads w t 0 (length w) r → Top key w t 0 (length w) r → Best (above_by key) t w r
top_best key t w r a h = record { reads = a; outranks = λ y b n. go y n (h y b) }
  where
    go : (y : Reading) → (y ≡ r → ⊥) → AtMost key t y r → above_by key (rows t) 0 r y ≡ true
    go y n (inl e) = absurd (n e)
    go y n (inr e) = e

best_top : {key : Key} → Faithful key → (t : Tree) (w : List Sight) (r : Reading) → Best (above_by key) t w r → Top key w t 0 (length w) r
best_top {key} f t w r h y b = go (lex_one (keys key (rows t) r) (keys key (rows t) y))
  where
    go : (keys key (rows t) r ≡ keys key (rows t) y) ⊎ (Above key t r y ⊎ Above key t y r) → AtMost key t y r
    go (inl e) = inl (sym (tells f t w 0 (length w) (length w) r y h.reads b e).1)
    go (inr (inl e)) = inr e
    go (inr (inr e)) = inr (h.outranks y b (λ d. lex_one_not_above (keys key (rows t) y) (keys key (rows t) r) (ap (λ (z : Reading). keys key (rows t) z) d) e))

-- what a relation must show to derive exactly the readings that the order of a key prefers
pub record Derives (key : Key) (derives : Relation) : Type 0 where
  pub sound : (w : List Sight) (t : Tree) (i j : ℕ) (r : Reading) → derives w t i j r → Reads w t i j r
  pub top : (w : List Sight) (t : Tree) (i j : ℕ) (r : Reading) → derives w t i j r → Top key w t i j r
  pub some : (w : List Sight) (t : Tree) (i j : ℕ) → i ≤ j → j ≤ length w → In t (part w i j) → (r : Reading) × derives w t i j r

pub prefers : {key : Key} (R : Relation) → Faithful key → Derives key R → Prefers (above_by key) R
prefers {key} R f d = record { best = λ t w r. (best t w r, back t w r); unique = unique; derived = λ t w. (from t w, λ h. rw part_whole at (reads_in (d.sound w t 0 (length w) h.0 h.1))) }
  where
    best : (t : Tree) (w : List Sight) (r : Reading) → R w t 0 (length w) r → Best (above_by key) t w r
    best t w r h = top_best key t w r (d.sound w t 0 (length w) r h) (d.top w t 0 (length w) r h)

    unique : (t : Tree) (w : List Sight) (i j : ℕ) (x y : Reading) → R w t i j x → R w t i j y → x ≡ y
    unique t w i j x y a b = top_unique key t x y (d.sound w t i j x a) (d.sound w t i j y b) (d.top w t i j x a) (d.top w t i j y b)

    from : (t : Tree) (w : List Sight) → In t w → (r : Reading) × R w t 0 (length w) r
    from t w h = d.some w t 0 (length w) (omega arith) (omega arith) (rw part_whole h)

    back : (t : Tree) (w : List Sight) (r : Reading) → Best (above_by key) t w r → R w t 0 (length w) r
    back t w r h =
        let c = d.some w t 0 (length w) (omega arith) (omega arith) (reads_in h.reads) in
        let e : c.0 ≡ r = top_unique key t c.0 r (d.sound w t 0 (length w) c.0 c.1) h.reads (d.top w t 0 (length w) c.0 c.1) (best_top f t w r h) in
        subst (λ (z : Reading). R w t 0 (length w) z) e c.1
