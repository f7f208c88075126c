-- The first-and-longest relation derives a reading that is above every other of its stretch.
use Rattle.std.proofs.Common.{◌≡◌, ℕ, suc, ◌-◌, ◌<◌, ◌≤◌, ◌⊎◌, List, [], ◌∷◌, ◌++◌, sym, refl, ap, ◌∙◌, subst, ap₂, inl, inr, ⊎_elim, arith}
use Rattle.std.proofs.lemmas.Bool.{cases_order}
use Rattle.rules.specs.Trees.{Tree, empty, leaf, choice, sequence, star, rows}
use Rattle.rules.specs.Languages.{Sight, In, part}
use Rattle.rules.specs.Readings.{Reading, Reads, reads_empty, reads_leaf, reads_first, reads_second, reads_sequence, reads_star, stretch, nothing}
use Rattle.rules.proofs.Parts.{sequence_join}
use Rattle.rules.proofs.ReadingFacts.{ReadsCases, reads_cases, reads_ordered, reads_within, reads_in, reads_rows, nothing_rows}
use Rattle.policies.specs.FirstLongest.{First, Pair, first_empty, first_leaf, first_star, first_first, first_second, first_sequence, pair_empty, pair_leaf, pair_first, pair_second, pair_sequence, pair_star}
use Rattle.policies.specs.Keys.{first_key, keys}
use Rattle.policies.specs.Lex.{lex_greater}
use Rattle.policies.specs.KeyFacts.{first_faithful, whole_first, whole_second, first_above_second}
use Rattle.policies.proofs.Tops.{Above, AtMost, Top, at_most, top_first, top_second, top_pair}

-- what is derived is a reading
mutual
  pub first_reads : {w : List Sight} {t : Tree} {i j : ℕ} {r : Reading} → First w t i j r → Reads w t i j r
  first_reads (first_empty h) = reads_empty h
  first_reads (first_leaf h a) = reads_leaf h a
  first_reads (first_star h l a) = reads_star h l a
  first_reads (first_first a) = reads_first (first_reads a)
  first_reads (first_second a n) = reads_second (first_reads a)
  first_reads (first_sequence a) = let b = pair_reads a in reads_sequence b.0 b.1

  pub pair_reads : {w : List Sight} {p q : Tree} {i k j : ℕ} {r s : Reading} → Pair w p q i k j r s → Reads w p i k r × Reads w q k j s
  pair_reads (pair_empty a) = let b = first_reads a in let l = reads_ordered b in let m = reads_within b in (reads_empty (omega arith), b)
  pair_reads (pair_leaf g a) = let b = first_reads a in let l = reads_ordered b in let m = reads_within b in (reads_leaf (omega arith) g, b)
  pair_reads (pair_first a) = let b = pair_reads a in (reads_first b.0, b.1)
  pair_reads (pair_second a n) = let b = pair_reads a in (reads_second b.0, b.1)
  pair_reads (pair_sequence a b) = let c = pair_reads a in let d = pair_reads b in (reads_sequence c.0 d.0, d.1)
  pair_reads (pair_star h g a n) = let b = first_reads a in let l = reads_ordered b in let m = reads_within b in (reads_star h (omega arith) g, b)

-- y and then z, against r and then s: p decides, or p reads the same and q decides
abbrev PairAtMost : Tree → Tree → ℕ → Reading → Reading → ℕ → Reading → Reading → Type 0
PairAtMost p q m y z k r s = Above first_key p r y ⊎ ((m ≡ k) × (y ≡ r) × AtMost first_key q z s)

-- r and then s are above every other pair of readings
abbrev PairTop : List Sight → Tree → Tree → ℕ → ℕ → ℕ → Reading → Reading → Type 0
PairTop w p q i k j r s = (m : ℕ) (y z : Reading) → Reads w p i m y → Reads w q m j z → PairAtMost p q m y z k r s

above_moved : (t : Tree) (x y z : Reading) → y ≡ z → Above first_key t x z → Above first_key t x y
above_moved t x y z e h = subst (λ (u : Reading). Above first_key t x u) (sym e) h

top_sequence : {w : List Sight} (p q : Tree) {i k j : ℕ} (r s y : Reading) → Reads w p i k r → PairTop w p q i k j r s → ReadsCases w (sequence p q) i j y → AtMost first_key (sequence p q) y (stretch i j ∷ (r ++ s))
top_sequence p q {i} {k} {j} r s y a h c = at_most first_key (sequence p q) y _ _ c.5 (top_pair first_key p q i k c.0 j r s c.1 c.2 a c.3 (go (h c.0 c.1 c.2 c.3 c.4)))
  where
    go : PairAtMost p q c.0 c.1 c.2 k r s → Above first_key p r c.1 ⊎ ((c.1 ≡ r) × AtMost first_key q c.2 s)
    go (inl g) = inl g
    go (inr d) = inr (d.1, d.2)

-- the second part of a pair, where the first takes the same stretch
moved : {w : List Sight} (q : Tree) (k m j : ℕ) (s : Reading) → Top first_key w q k j s → m ≡ k → (z : Reading) → Reads w q m j z → AtMost first_key q z s
moved {w} q k m j s h e z g = h z (subst (λ (x : ℕ). Reads w q x j z) e g)

pair_top_empty : {w : List Sight} (q : Tree) (i j : ℕ) (s : Reading) → Top first_key w q i j s → PairTop w empty q i i j (stretch i i ∷ []) s
pair_top_empty q i j s h m y z a b = let c = reads_cases a in inr (c.0, c.1 ∙ ap {B = Reading} (λ (n : ℕ). stretch i n ∷ []) c.0, moved q i m j s h c.0 z b)

pair_top_leaf : {w : List Sight} (lo hi : ℕ) (q : Tree) (i j : ℕ) (s : Reading) → Top first_key w q (suc i) j s → PairTop w (leaf lo hi) q i (suc i) j (stretch i (suc i) ∷ []) s
pair_top_leaf lo hi q i j s h m y z a b = let c = reads_cases a in inr (c.0, c.1 ∙ ap {B = Reading} (λ (n : ℕ). stretch i n ∷ []) c.0, moved q (suc i) m j s h c.0 z b)

pair_top_first : {w : List Sight} (p o q : Tree) (i k j : ℕ) (r s : Reading) → Reads w p i k r → PairTop w p q i k j r s → PairTop w (choice p o) q i k j (stretch i k ∷ (r ++ nothing o)) s
pair_top_first {w} p o q i k j r s a h m y z b l = go (reads_cases b)
  where
    within : (x : Reading) → Reads w p i m x → y ≡ stretch i m ∷ (x ++ nothing o) → PairAtMost p q m x z k r s → PairAtMost (choice p o) q m y z k (stretch i k ∷ (r ++ nothing o)) s
    within x g e (inl d) = inl (above_moved (choice p o) (stretch i k ∷ (r ++ nothing o)) y _ e (whole_first first_key 2 p (rows o) (stretch i k) (stretch i m) r (nothing o) x (nothing o) refl (reads_rows a) (reads_rows g) d))
    within x g e (inr d) = inr (d.0, e ∙ ap₂ {C = Reading} (λ (n : ℕ) (u : Reading). stretch i n ∷ (u ++ nothing o)) d.0 d.1, d.2)

    go : ReadsCases w (choice p o) i m y → PairAtMost (choice p o) q m y z k (stretch i k ∷ (r ++ nothing o)) s
    go (inl c) = within c.0 c.1 c.2 (h m c.0 z c.1 l)
    go (inr c) = inl (above_moved (choice p o) (stretch i k ∷ (r ++ nothing o)) y _ c.2 (first_above_second first_faithful a o (stretch i k) (stretch i m) (nothing o) c.0 refl))

pair_top_second : {w : List Sight} (p o q : Tree) (i k j : ℕ) (r s : Reading) → (In (sequence p q) (part w i j) → ⊥) → PairTop w o q i k j r s → PairTop w (choice p o) q i k j (stretch i k ∷ (nothing p ++ r)) s
pair_top_second {w} p o q i k j r s n h m y z b l = go (reads_cases b)
  where
    within : (x : Reading) → y ≡ stretch i m ∷ (nothing p ++ x) → PairAtMost o q m x z k r s → PairAtMost (choice p o) q m y z k (stretch i k ∷ (nothing p ++ r)) s
    within x e (inl d) = inl (above_moved (choice p o) (stretch i k ∷ (nothing p ++ r)) y _ e (whole_second first_key 2 p (rows o) (stretch i k) (stretch i m) (nothing p) r x refl (nothing_rows p) d))
    within x e (inr d) = inr (d.0, e ∙ ap₂ {C = Reading} (λ (n : ℕ) (u : Reading). stretch i n ∷ (nothing p ++ u)) d.0 d.1, d.2)

    go : ReadsCases w (choice p o) i m y → PairAtMost (choice p o) q m y z k (stretch i k ∷ (nothing p ++ r)) s
    go (inl c) = absurd (n (sequence_join w p q i j m (reads_ordered c.1) (reads_ordered l) (reads_in c.1) (reads_in l)))
    go (inr c) = within c.0 c.2 (h m c.0 z c.1 l)

pair_top_sequence : {w : List Sight} (p o q : Tree) (i h k j : ℕ) (r s u v : Reading) → Reads w p i h r → PairTop w p (sequence o q) i h j r u → PairTop w o q h k j s v
    → PairTop w (sequence p o) q i k j (stretch i k ∷ (r ++ s)) v
pair_top_sequence {w} p o q i h k j r s u v f one two m y z b l = go (reads_cases b)
  where
    go : ReadsCases w (sequence p o) i m y → PairAtMost (sequence p o) q m y z k (stretch i k ∷ (r ++ s)) v
    go c = either (one c.0 c.1 (stretch c.0 j ∷ (c.2 ++ z)) c.3 (reads_sequence c.4 l))
      where
        inner : c.0 ≡ h → c.1 ≡ r → PairAtMost o q m c.2 z k s v → PairAtMost (sequence p o) q m y z k (stretch i k ∷ (r ++ s)) v
        inner d e (inl g) =
            inl (above_moved (sequence p o) (stretch i k ∷ (r ++ s)) y _ (c.5 ∙ ap {B = Reading} (λ (x : Reading). stretch i m ∷ (x ++ c.2)) e)
            (whole_second first_key 3 p (rows o) (stretch i k) (stretch i m) r s c.2 refl (reads_rows f) g))
        inner d e (inr g) = inr (g.0, c.5 ∙ ap {B = Reading} (λ (n : ℕ). stretch i n ∷ (c.1 ++ c.2)) g.0 ∙ ap₂ {C = Reading} (λ (x t : Reading). stretch i k ∷ (x ++ t)) e g.1, g.2)

        either : PairAtMost p (sequence o q) c.0 c.1 (stretch c.0 j ∷ (c.2 ++ z)) h r u → PairAtMost (sequence p o) q m y z k (stretch i k ∷ (r ++ s)) v
        either (inl g) = inl (above_moved (sequence p o) (stretch i k ∷ (r ++ s)) y _ c.5 (whole_first first_key 3 p (rows o) (stretch i k) (stretch i m) r s c.1 c.2 refl (reads_rows f) (reads_rows c.3) g))
        either (inr d) = inner d.0 d.1 (two m c.2 z (subst (λ (n : ℕ). Reads w o n m c.2) d.0 c.4) l)

pair_top_star : {w : List Sight} (p q : Tree) (i k j : ℕ) (s : Reading) → i ≤ k → ((m : ℕ) → k < m → m ≤ j → In (star p) (part w i m) → In q (part w m j) → ⊥) → Top first_key w q k j s
    → PairTop w (star p) q i k j (stretch i k ∷ nothing p) s
pair_top_star {w} p q i k j s h n top m y z a l =
    let e = (reads_cases a).3 in
    let b = reads_ordered a in
    ⊎_elim
    (λ d. inr (d, e ∙ ap {B = Reading} (λ (x : ℕ). stretch i x ∷ nothing p) d, moved q k m j s top d z l))
    (⊎_elim
    (λ lt. inl (above_moved (star p) (stretch i k ∷ nothing p) y _ e (lex_greater (suc (k - i)) (keys first_key (rows p) (nothing p)) (suc (m - i)) (keys first_key (rows p) (nothing p)) (omega arith))))
    (λ gt. absurd (n m gt (reads_ordered l) (reads_in a) (reads_in l))))
    (cases_order m k)

-- what is derived is above every other reading
mutual
  pub first_top : {w : List Sight} {t : Tree} {i j : ℕ} {r : Reading} → First w t i j r → Top first_key w t i j r
  first_top (first_empty h) y b = inl (reads_cases b).1
  first_top (first_leaf h a) y b = inl (reads_cases b).1
  first_top (first_star h l a) y b = inl (reads_cases b).3
  first_top (first_first {p = p} {q = q} {r = r} a) y b = top_first first_faithful p q r y (first_reads a) (first_top a) (reads_cases b)
  first_top (first_second {p = p} {q = q} {r = r} a n) y b = top_second first_key p q r y (first_top a) n (reads_cases b)
  first_top (first_sequence {p = p} {q = q} {r = r} {s = s} a) y b = top_sequence p q r s y (pair_reads a).0 (pair_top a) (reads_cases b)

  pub pair_top : {w : List Sight} {p q : Tree} {i k j : ℕ} {r s : Reading} → Pair w p q i k j r s → PairTop w p q i k j r s
  pair_top (pair_empty {q = q} {i = i} {j = j} {s = s} a) = pair_top_empty q i j s (first_top a)
  pair_top (pair_leaf {lo = lo} {hi = hi} {i = i} {j = j} {q = q} {s = s} g a) = pair_top_leaf lo hi q i j s (first_top a)
  pair_top (pair_first {p = p} {o = o} {q = q} {i = i} {k = k} {j = j} {r = r} {s = s} a) = pair_top_first p o q i k j r s (pair_reads a).0 (pair_top a)
  pair_top (pair_second {p = p} {o = o} {q = q} {i = i} {k = k} {j = j} {r = r} {s = s} a n) = pair_top_second p o q i k j r s n (pair_top a)
  pair_top (pair_sequence {p = p} {o = o} {q = q} {i = i} {h = h} {k = k} {j = j} {r = r} {s = s} {u = u} {v = v} a b) = pair_top_sequence p o q i h k j r s u v (pair_reads a).0 (pair_top a) (pair_top b)
  pair_top (pair_star {p = p} {q = q} {i = i} {k = k} {j = j} {s = s} h g a n) = pair_top_star p q i k j s h n (first_top a)
