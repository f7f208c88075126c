-- The first-and-longest relation derives the reading that its order prefers, and no other.
use Rattle.std.proofs.Common.{◌≡◌, ℕ, suc, ◌≤◌, List, [], ◌∷◌, ◌++◌, length, sym, subst, inl, inr, arith}
use Rattle.rules.specs.Trees.{Tree, empty, leaf, choice, sequence, star}
use Rattle.rules.specs.Languages.{Sight, In, part}
use Rattle.rules.specs.Readings.{Reading, stretch, nothing}
use Rattle.rules.proofs.Parts.{InCases, in_cases, Split, sequence_split, sequence_join, empty_part, leaf_part}
use Rattle.rules.proofs.Decide.{decides, longest_split}
use Rattle.rules.proofs.ReadingFacts.{reads_ordered, reads_in}
use Rattle.policies.specs.FirstLongest.{First, Pair, first_empty, first_leaf, first_star, first_first, first_second, first_sequence, pair_empty, pair_leaf, pair_first, pair_second, pair_sequence, pair_star}
use Rattle.policies.specs.Keys.{first_above}
use Rattle.policies.specs.Theorems.{Prefers}
use Rattle.policies.specs.KeyFacts.{first_faithful}
use Rattle.policies.proofs.Tops.{prefers}
use Rattle.policies.proofs.FirstTop.{first_reads, pair_reads, first_top}

module _ (w : List Sight) where
  abbrev Derived : Tree → ℕ → ℕ → Type 0
  Derived t i j = (r : Reading) × First w t i j r

  -- each part of the name that is a name of q derives a reading
  abbrev Derives : Tree → Type 0
  Derives q = (i j : ℕ) → i ≤ j → j ≤ length w → In q (part w i j) → Derived q i j

  abbrev Paired : Tree → Tree → ℕ → ℕ → Type 0
  Paired p q i j = (k : ℕ) × (r s : Reading) × Pair w p q i k j r s

  pair_empties : (q : Tree) → Derives q → (i j : ℕ) → j ≤ length w → Split w empty q i j → Paired empty q i j
  pair_empties q derive i j lw c =
      let b = c.2 in
      let e : i ≡ c.0 = empty_part w i c.0 c.1 (omega arith) c.3 in
      let a = derive i j (omega (arith, c.1)) lw (subst (λ (m : ℕ). In q (part w m j)) (sym e) c.4) in
      (i, stretch i i ∷ [], a.0, pair_empty a.1)

  pair_leaves : (lo hi : ℕ) (q : Tree) → Derives q → (i j : ℕ) → j ≤ length w → Split w (leaf lo hi) q i j → Paired (leaf lo hi) q i j
  pair_leaves lo hi q derive i j lw c =
      let b = c.2 in
      let e : c.0 ≡ suc i = leaf_part w lo hi i c.0 c.1 (omega arith) c.3 in
      let a = derive (suc i) j (omega arith) lw (subst (λ (m : ℕ). In q (part w m j)) e c.4) in
      (suc i, stretch i (suc i) ∷ [], a.0, pair_leaf (subst (λ (m : ℕ). In (leaf lo hi) (part w i m)) e c.3) a.1)

  pair_choice : (p o q : Tree) (i j : ℕ) → j ≤ length w → (Split w p q i j → Paired p q i j) → (Split w o q i j → Paired o q i j) → Split w (choice p o) q i j → Dec (In (sequence p q) (part w i j)) → Paired (choice p o) q i j
  pair_choice p o q i j lw one two c (yes h) =
      let a = one (sequence_split w p q i j (omega (arith, c.1, c.2)) lw h) in
      (a.0, stretch i a.0 ∷ (a.1 ++ nothing o), a.2, pair_first a.3)
  pair_choice p o q i j lw one two c (no f) = go (in_cases c.3)
    where
      go : InCases (choice p o) (part w i c.0) → Paired (choice p o) q i j
      go (inl h) = absurd (f (sequence_join w p q i j c.0 c.1 c.2 h c.4))
      go (inr h) = let a = two (c.0, c.1, c.2, h, c.4) in (a.0, stretch i a.0 ∷ (nothing p ++ a.1), a.2, pair_second a.3 f)

  pair_stars : (p q : Tree) → Derives q → (i j : ℕ) → j ≤ length w → Split w (star p) q i j → Paired (star p) q i j
  pair_stars p q derive i j lw c =
      let g = longest_split w (star p) q i j c in
      let a = derive g.0 j g.1 lw g.2.2 in
      (g.0, stretch i g.0 ∷ nothing p, a.0, pair_star g.2.0 g.2.1 a.1 (λ m x y u v. g.3 m x y (omega (arith, g.2.0), u, v)))

  -- p and then o, and then q: the same, split after p
  split_again : (p o q : Tree) (i j : ℕ) → j ≤ length w → Split w (sequence p o) q i j → Split w p (sequence o q) i j
  split_again p o q i j lw c =
      let b = c.2 in
      let d = sequence_split w p o i c.0 c.1 (omega arith) c.3 in
      (d.0, d.1, omega (arith, d.2), d.3, sequence_join w o q d.0 j c.0 d.2 c.2 d.4 c.4)

  pair_sequences : (p o q : Tree) (i j : ℕ) → j ≤ length w → Paired p (sequence o q) i j → ((h : ℕ) → Split w o q h j → Paired o q h j) → Paired (sequence p o) q i j
  pair_sequences p o q i j lw a two =
      let f = (pair_reads a.3).1 in
      let b = two a.0 (sequence_split w o q a.0 j (reads_ordered f) lw (reads_in f)) in
      (b.0, stretch i b.0 ∷ (a.1 ++ b.1), b.2, pair_sequence a.3 b.3)

  -- by recursion over the first tree; what is known of the second is handed along
  paired : (p q : Tree) → Derives q → (i j : ℕ) → j ≤ length w → Split w p q i j → Paired p q i j
  paired empty q derive i j lw c = pair_empties q derive i j lw c
  paired (leaf lo hi) q derive i j lw c = pair_leaves lo hi q derive i j lw c
  paired (choice p o) q derive i j lw c = pair_choice p o q i j lw (paired p q derive i j lw) (paired o q derive i j lw) c (decides (sequence p q) (part w i j))
  paired (sequence p o) q derive i j lw c =
      pair_sequences p o q i j lw
      (paired p (sequence o q) (λ m n le ln h. let a = paired o q derive m n ln (sequence_split w o q m n le ln h) in (stretch m n ∷ (a.1 ++ a.2), first_sequence a.3)) i j lw (split_again p o q i j lw c))
      (λ h. paired o q derive h j lw)
  paired (star p) q derive i j lw c = pair_stars p q derive i j lw c

  -- each part of the name that is a name of the tree derives a reading
  pub first_exists : (t : Tree) → Derives t
  first_exists empty i j a b h = let e : i ≡ j = empty_part w i j a b h in (stretch i i ∷ [], subst (λ (z : ℕ). First w empty i z (stretch i i ∷ [])) e (first_empty (omega arith)))
  first_exists (leaf lo hi) i j a b h =
      let e : j ≡ suc i = leaf_part w lo hi i j a b h in
      (stretch i (suc i) ∷ [], subst (λ (z : ℕ). First w (leaf lo hi) i z (stretch i (suc i) ∷ [])) (sym e) (first_leaf (omega arith) (subst (λ (z : ℕ). In (leaf lo hi) (part w i z)) e h)))
  first_exists (choice p q) i j a b h = go (decides p (part w i j)) (in_cases h) (first_exists p i j a b) (first_exists q i j a b)
    where
      go : Dec (In p (part w i j)) → InCases (choice p q) (part w i j) → (In p (part w i j) → Derived p i j) → (In q (part w i j) → Derived q i j) → Derived (choice p q) i j
      go (yes x) c f g = let d = f x in (stretch i j ∷ (d.0 ++ nothing q), first_first d.1)
      go (no n) (inl x) f g = absurd (n x)
      go (no n) (inr x) f g = let d = g x in (stretch i j ∷ (nothing p ++ d.0), first_second d.1 n)
  first_exists (sequence p q) i j a b h = let c = paired p q (first_exists q) i j b (sequence_split w p q i j a b h) in (stretch i j ∷ (c.1 ++ c.2), first_sequence c.3)
  first_exists (star p) i j a b h = (stretch i j ∷ nothing p, first_star a b h)

pub first_prefers : Prefers first_above First
first_prefers = prefers First first_faithful (record { sound = λ w t i j r. first_reads; top = λ w t i j r. first_top; some = first_exists })
