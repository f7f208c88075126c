-- The POSIX relation derives the reading that the POSIX order prefers, and no other.
use Rattle.std.proofs.Common.{◌≡◌, ℕ, suc, ◌-◌, ◌<◌, ◌≤◌, true, ◌⊎◌, List, [], ◌∷◌, ◌++◌, length, sym, ap, ◌∙◌, subst, inl, inr, arith}
use Rattle.std.proofs.lemmas.Bool.{cases_order}
use Rattle.rules.specs.Trees.{Tree, empty, leaf, choice, sequence, star, rows}
use Rattle.rules.specs.Languages.{Sight, In, part}
use Rattle.rules.specs.Readings.{Reading, Reads, reads_empty, reads_leaf, reads_first, reads_second, reads_sequence, reads_star, stretch, nothing}
use Rattle.policies.specs.Theorems.{Prefers}
use Rattle.policies.specs.Posix.{Posix, posix_empty, posix_leaf, posix_star, posix_first, posix_second, posix_sequence}
use Rattle.policies.specs.Keys.{keys, lex_above, posix_key, posix_above}
use Rattle.rules.proofs.Parts.{InCases, in_cases, sequence_split, empty_part, leaf_part}
use Rattle.rules.proofs.Decide.{decides, longest_split}
use Rattle.rules.proofs.ReadingFacts.{ReadsCases, reads_cases, reads_head, reads_ordered, reads_in}
use Rattle.policies.specs.Lex.{lex_greater}
use Rattle.policies.specs.KeyFacts.{posix_faithful, keys_first}
use Rattle.policies.proofs.Tops.{Above, AtMost, top_pair, Top, at_most, top_first, top_second, prefers}
use Rattle.rules.proofs.RowFacts.{first_row}

-- what is derived is a reading
pub posix_reads : {w : List Sight} {t : Tree} {i j : ℕ} {r : Reading} → Posix w t i j r → Reads w t i j r
posix_reads (posix_empty h) = reads_empty h
posix_reads (posix_leaf h a) = reads_leaf h a
posix_reads (posix_star h l a) = reads_star h l a
posix_reads (posix_first a) = reads_first (posix_reads a)
posix_reads (posix_second a n) = reads_second (posix_reads a)
posix_reads (posix_sequence a b n) = reads_sequence (posix_reads a) (posix_reads b)

-- of two readings from one start, the longer is above
longer_above : {w : List Sight} (p : Tree) {i j k : ℕ} (x y : Reading) → Reads w p i j x → Reads w p i k y → k < j → lex_above (keys posix_key (rows p) x) (keys posix_key (rows p) y) ≡ true
longer_above p {i} {j} {k} x y a b l =
    let c = reads_head a in
    let d = reads_head b in
    let u : keys posix_key (rows p) x ≡ suc (j - i) ∷ keys posix_key (first_row p).1 c.0 = ap (λ (z : Reading). keys posix_key (rows p) z) c.1 ∙ keys_first posix_key p (stretch i j) c.0 in
    let v : keys posix_key (rows p) y ≡ suc (k - i) ∷ keys posix_key (first_row p).1 d.0 = ap (λ (z : Reading). keys posix_key (rows p) z) d.1 ∙ keys_first posix_key p (stretch i k) d.0 in
    let o = reads_ordered b in
    rw (u, v) (lex_greater (suc (j - i)) (keys posix_key (first_row p).1 c.0) (suc (k - i)) (keys posix_key (first_row p).1 d.0) (omega arith))

abbrev Longest : List Sight → Tree → Tree → ℕ → ℕ → ℕ → Type 0
Longest w p q i k j = (m : ℕ) → k < m → m ≤ j → In p (part w i m) → In q (part w m j) → ⊥

top_sequence : {w : List Sight} (p q : Tree) {i k j : ℕ} (r s y : Reading) → Reads w p i k r → Top posix_key w p i k r → Top posix_key w q k j s → Longest w p q i k j
    → ReadsCases w (sequence p q) i j y → AtMost posix_key (sequence p q) y (stretch i j ∷ (r ++ s))
top_sequence {w} p q {i} {k} {j} r s y a hp hq n c = at_most posix_key (sequence p q) y _ _ c.5 (top_pair posix_key p q i k c.0 j r s c.1 c.2 a c.3 (go (cases_order c.0 k)))
  where
    same : AtMost posix_key p c.1 r → AtMost posix_key q c.2 s → Above posix_key p r c.1 ⊎ ((c.1 ≡ r) × AtMost posix_key q c.2 s)
    same (inl e) h = inr (e, h)
    same (inr g) h = inl g

    go : (c.0 ≡ k) ⊎ ((c.0 < k) ⊎ (k < c.0)) → Above posix_key p r c.1 ⊎ ((c.1 ≡ r) × AtMost posix_key q c.2 s)
    go (inl e) = same (hp c.1 (subst (λ (z : ℕ). Reads w p i z c.1) e c.3)) (hq c.2 (subst (λ (z : ℕ). Reads w q z j c.2) e c.4))
    go (inr (inl l)) = inl (longer_above p r c.1 a c.3 l)
    go (inr (inr l)) = absurd (n c.0 l (reads_ordered c.4) (reads_in c.3) (reads_in c.4))

-- what is derived is above every other reading
pub posix_top : {w : List Sight} {t : Tree} {i j : ℕ} {r : Reading} → Posix w t i j r → Top posix_key w t i j r
posix_top (posix_empty h) y b = inl (reads_cases b).1
posix_top (posix_leaf h a) y b = inl (reads_cases b).1
posix_top (posix_star h l a) y b = inl (reads_cases b).3
posix_top (posix_first {p = p} {q = q} {r = r} a) y b = top_first posix_faithful p q r y (posix_reads a) (posix_top a) (reads_cases b)
posix_top (posix_second {p = p} {q = q} {r = r} a n) y b = top_second posix_key p q r y (posix_top a) n (reads_cases b)
posix_top (posix_sequence {p = p} {q = q} {r = r} {s = s} a b n) y c = top_sequence p q r s y (posix_reads a) (posix_top a) (posix_top b) n (reads_cases c)

abbrev Derived : List Sight → Tree → ℕ → ℕ → Type 0
Derived w t i j = (r : Reading) × Posix w t i j r

-- each part of a name that is a name of the tree derives a reading
pub posix_exists : (w : List Sight) (t : Tree) (i j : ℕ) → i ≤ j → j ≤ length w → In t (part w i j) → Derived w t i j
posix_exists w empty i j a b h = let e : i ≡ j = empty_part w i j a b h in (stretch i i ∷ [], subst (λ (z : ℕ). Posix w empty i z (stretch i i ∷ [])) e (posix_empty (omega arith)))
posix_exists w (leaf lo hi) i j a b h =
    let e : j ≡ suc i = leaf_part w lo hi i j a b h in
    (stretch i (suc i) ∷ [], subst (λ (z : ℕ). Posix w (leaf lo hi) i z (stretch i (suc i) ∷ [])) (sym e) (posix_leaf (omega arith) (subst (λ (z : ℕ). In (leaf lo hi) (part w i z)) e h)))
posix_exists w (choice p q) i j a b h = go (decides p (part w i j)) (in_cases h) (posix_exists w p i j a b) (posix_exists w q i j a b)
  where
    go : Dec (In p (part w i j)) → InCases (choice p q) (part w i j) → (In p (part w i j) → Derived w p i j) → (In q (part w i j) → Derived w q i j) → Derived w (choice p q) i j
    go (yes x) c f g = let d = f x in (stretch i j ∷ (d.0 ++ nothing q), posix_first d.1)
    go (no n) (inl x) f g = absurd (n x)
    go (no n) (inr x) f g = let d = g x in (stretch i j ∷ (nothing p ++ d.0), posix_second d.1 n)
posix_exists w (sequence p q) i j a b h =
    let s = longest_split w p q i j (sequence_split w p q i j a b h) in
    let x = posix_exists w p i s.0 s.2.0 (omega arith) s.2.1 in
    let y = posix_exists w q s.0 j s.1 b s.2.2 in
    (stretch i j ∷ (x.0 ++ y.0), posix_sequence x.1 y.1 (λ m l u c d. s.3 m l u (omega arith, c, d)))
posix_exists w (star p) i j a b h = (stretch i j ∷ nothing p, posix_star a b h)

pub posix_prefers : Prefers posix_above Posix
posix_prefers = prefers Posix posix_faithful (record { sound = λ w t i j r. posix_reads; top = λ w t i j r. posix_top; some = posix_exists })
