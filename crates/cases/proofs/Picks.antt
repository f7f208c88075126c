-- When keys are above others.
use Rattle.std.proofs.Common.{subst, length-take, get_or-take, Vec, vec_len, Global, None, below_more, MatchOption, ◌⊎◌, inl, inr, get_or, ◌≡◌, ℕ, zero, suc, ◌+◌, ◌<◌, ◌≤◌, min, Bool, true, false, cond, eqb, ltb, List, [], ◌∷◌, length, take, Option, Some, sym, refl, ap, ◌∙◌, arith, nat_cmp, Ordering, Less, Equal, Greater}
use Rattle.std.proofs.lemmas.Bool.Decides.{nat_tests}
use Rattle.std.proofs.lemmas.List.{length-map, get_or_default}
use Rattle.std.proofs.lemmas.Slice.Zip.{length-zip}
use Rattle.std.specs.Prelude.{zip, slice_get, IfSome, All}
use Rattle.std.proofs.lemmas.Option.{slice_get_cases, get_or_from_slice_get}
use Rattle.std.specs.Cmp.Lexicographic.{slice_cmp}
use Rattle.std.specs.Option.{option_cmp}
use Rattle.std.specs.Ordering.{is_gt, ordering_then, MatchOrdering}
use Rattle.rules.specs.declared.row.Row.{Row}
use Rattle.cases.specs.Sizes.{EachHas}
use Rattle.cases.specs.declared.pick.Keys.{Keys}
use Rattle.cases.specs.Keys.{keys, key_of, node_keys, above, over}

-- one place
keep_at : (x y z : ℕ) (p q r : Bool) → (p ≡ false → q ≡ true → r ≡ false) → cond (eqb x y) p (ltb y x) ≡ false → cond (eqb z y) q (ltb y z) ≡ true → cond (eqb x z) r (ltb z x) ≡ false
keep_at x y z p q r h a b = grind (arith, nat_tests)

keep_under_at : (x y z : ℕ) (p q r : Bool) → (p ≡ false → q ≡ true → r ≡ false) → cond (eqb y x) p (ltb x y) ≡ false → cond (eqb y z) q (ltb z y) ≡ true → cond (eqb z x) r (ltb x z) ≡ false
keep_under_at x y z p q r h a b = grind (arith, nat_tests)

pass_at : (x y z : ℕ) (p q r : Bool) → (p ≡ false → q ≡ true → r ≡ true) → cond (eqb x y) p (ltb y x) ≡ false → cond (eqb z y) q (ltb y z) ≡ true → cond (eqb z x) r (ltb x z) ≡ true
pass_at x y z p q r h a b = grind (arith, nat_tests)

pass_under_at : (x y z : ℕ) (p q r : Bool) → (p ≡ false → q ≡ true → r ≡ true) → cond (eqb y x) p (ltb x y) ≡ false → cond (eqb y z) q (ltb z y) ≡ true → cond (eqb x z) r (ltb z x) ≡ true
pass_under_at x y z p q r h a b = grind (arith, nat_tests)

same_at : (x : ℕ) (p : Bool) → p ≡ false → cond (eqb x x) p (ltb x x) ≡ false
same_at x p h = grind (arith, nat_tests)

no : {b : Bool} → false ≡ true → b ≡ true
no e = absurd (cc e)

-- nothing is above itself
above_same : (xs : List ℕ) → above xs xs ≡ false
above_same [] = refl
above_same (x ∷ xs) = same_at x (above xs xs) (above_same xs)

-- what is not above the second is not above what is above it
keeps : (xs ys zs : List ℕ) → above xs ys ≡ false → above zs ys ≡ true → above xs zs ≡ false
keeps [] ys zs a b = refl
keeps (x ∷ xs) ys [] a b = refl
keeps (x ∷ xs) [] (z ∷ zs) a b = absurd (cc b)
keeps (x ∷ xs) (y ∷ ys) (z ∷ zs) a b = keep_at x y z (above xs ys) (above zs ys) (above xs zs) (keeps xs ys zs) a b

-- the same below
keeps_under : (xs ys zs : List ℕ) → above ys xs ≡ false → above ys zs ≡ true → above zs xs ≡ false
keeps_under xs ys [] a b = refl
keeps_under [] ys (z ∷ zs) a b = refl
keeps_under (x ∷ xs) [] (z ∷ zs) a b = absurd (cc b)
keeps_under (x ∷ xs) (y ∷ ys) (z ∷ zs) a b = keep_under_at x y z (above ys xs) (above ys zs) (above zs xs) (keeps_under xs ys zs) a b

-- what is above the second is above what is not, if that has as many places
passes : (xs ys zs : List ℕ) → length ys ≤ length xs → above xs ys ≡ false → above zs ys ≡ true → above zs xs ≡ true
passes xs ys [] l a b = no b
passes xs [] (z ∷ zs) l a b = no b
passes [] (y ∷ ys) (z ∷ zs) l a b = absurd (omega (arith, l))
passes (x ∷ xs) (y ∷ ys) (z ∷ zs) l a b = pass_at x y z (above xs ys) (above zs ys) (above zs xs) (passes xs ys zs (omega (arith, l))) a b

passes_under : (xs ys zs : List ℕ) → length ys ≤ length xs → above ys xs ≡ false → above ys zs ≡ true → above xs zs ≡ true
passes_under xs [] zs l a b = no b
passes_under [] (y ∷ ys) zs l a b = absurd (omega (arith, l))
passes_under (x ∷ xs) (y ∷ ys) [] l a b = no b
passes_under (x ∷ xs) (y ∷ ys) (z ∷ zs) l a b = pass_under_at x y z (above ys xs) (above ys zs) (above xs zs) (passes_under xs ys zs (omega (arith, l))) a b

pub over_same : (o : Bool) (xs : List ℕ) → over o xs xs ≡ false
over_same true xs = above_same xs
over_same false xs = above_same xs

pub over_keeps : (o : Bool) (xs ys zs : List ℕ) → over o xs ys ≡ false → over o zs ys ≡ true → over o xs zs ≡ false
over_keeps true xs ys zs a b = keeps_under xs ys zs a b
over_keeps false xs ys zs a b = keeps xs ys zs a b

pub over_passes : (o : Bool) (xs ys zs : List ℕ) → length ys ≤ length xs → over o xs ys ≡ false → over o zs ys ≡ true → over o zs xs ≡ true
over_passes true xs ys zs l a b = passes_under xs ys zs l a b
over_passes false xs ys zs l a b = passes xs ys zs l a b

compared : (x y : ℕ) → MatchOrdering (nat_cmp x y) (x < y) (x ≡ y) (y < x)
compared x y = grind (arith, nat_tests)

-- one place of two readings, compared
tied : (x y : ℕ) (o s : Ordering) (p : Bool) → MatchOrdering o (x < y) (x ≡ y) (y < x) → is_gt s ≡ p → is_gt (ordering_then o s) ≡ cond (eqb x y) p (ltb y x)
tied x y Less s p h e = grind (arith, nat_tests)
tied x y Equal s p h e = grind (arith, nat_tests)
tied x y Greater s p h e = grind (arith, nat_tests)

-- the comparison of as many entries of two readings says which is above
pub above_compared : (ks : Keys) (rs : List Row) (xs ys : List (Option (ℕ × ℕ))) (n : ℕ) → n ≡ min (length xs) (length ys)
    → is_gt (slice_cmp (option_cmp nat_cmp) (keys (λ r e. Some (key_of ks r e)) rs (take n xs)) (keys (λ r e. Some (key_of ks r e)) rs (take n ys))) ≡ above (node_keys ks rs xs) (node_keys ks rs ys)
above_compared ks [] xs ys n e = refl
above_compared ks (r ∷ rs) [] ys zero e = refl
above_compared ks (r ∷ rs) [] ys (suc n) e = absurd (omega (arith, e))
above_compared ks (r ∷ rs) (x ∷ xs) [] zero e = refl
above_compared ks (r ∷ rs) (x ∷ xs) [] (suc n) e = absurd (omega (arith, e))
above_compared ks (r ∷ rs) (x ∷ xs) (y ∷ ys) zero e = absurd (omega (arith, e))
above_compared ks (r ∷ rs) (x ∷ xs) (y ∷ ys) (suc n) e =
    tied (key_of ks r x) (key_of ks r y) (nat_cmp (key_of ks r x) (key_of ks r y)) _ _ (compared (key_of ks r x) (key_of ks r y)) (above_compared ks rs xs ys n (omega (arith, e)))

length_node_keys : (ks : Keys) (rs : List Row) (es : List (Option (ℕ × ℕ))) → length (node_keys ks rs es) ≡ min (length rs) (length es)
length_node_keys ks rs es = length-map (zip rs es) _ ∙ length-zip rs es

-- readings of as many entries have as many keys
pub as_many_keys : (ks : Keys) (rs : List Row) (xs ys : List (Option (ℕ × ℕ))) → length xs ≡ length ys → length (node_keys ks rs xs) ≤ length (node_keys ks rs ys)
as_many_keys ks rs xs ys e = omega (arith, length_node_keys ks rs xs, length_node_keys ks rs ys)

abbrev Reading : Type 0
Reading = Vec (Option (ℕ × ℕ)) Global

none_there : (n i : ℕ) → (0 < n → i < n) → n ≤ i → n ≡ 0
none_there zero i h l = refl
none_there (suc n) i h l = absurd (omega (arith, h (omega arith), l))

module _ (all : List Reading) (i : ℕ) (P : Reading → Reading → Type 0) where
  abbrev Each : ℕ → Reading → Type 0
  Each n r = (k : ℕ) (d : Reading) → k < n → P (get_or all k d) r

  found : ((x : Reading) × (i < length all) × (slice_get all i ≡ Some x) × (get_or all i x ≡ x)) ⊎ ((length all ≤ i) × (slice_get all i ≡ None))
      → (0 < length all → i < length all) → (n : ℕ) → ((k : ℕ) (d : Reading) → k < n → P (get_or all k d) (get_or all i d)) → MatchOption (slice_get all i) (length all ≡ 0) (λ r. Each n r)
  found (inl f) h n g = rw f.2 (λ k d lt. rw (← get_or_from_slice_get all i f.0 d f.2) (g k d lt))
  found (inr f) h n g = rw f.1 (none_there (length all) i h f.0)

  -- what holds of the reading at a place of the list
  pub at_place : (0 < length all → i < length all) → (n : ℕ) → ((k : ℕ) (d : Reading) → k < n → P (get_or all k d) (get_or all i d)) → MatchOption (slice_get all i) (length all ≡ 0) (λ r. Each n r)
  at_place h n g = found (slice_get_cases all i).1 h n g

  before : ((x : Reading) × (i < length all) × (slice_get all i ≡ Some x) × (get_or all i x ≡ x)) ⊎ ((length all ≤ i) × (slice_get all i ≡ None))
      → ((k : ℕ) (d : Reading) → k < i → P (get_or all k d) (get_or all i d)) → IfSome (slice_get all i) (λ r. All (λ x. P x r) (take i all))
  before (inl f) g =
      rw f.2 (λ k d lt.
      let l : k < i = omega (arith, lt, length-take i all) in
      subst (λ (z : Reading). P z f.0) (sym (get_or-take i all k d l)) (subst (λ (z : Reading). P (get_or all k d) z) (get_or_from_slice_get all i f.0 d f.2) (g k d l)))
  before (inr f) g = rw f.1 tt

  -- what holds of that reading and each before it
  pub before_place : ((k : ℕ) (d : Reading) → k < i → P (get_or all k d) (get_or all i d)) → IfSome (slice_get all i) (λ r. All (λ x. P x r) (take i all))
  before_place g = before (slice_get_cases all i).1 g

module _ (o : Bool) (ks : Keys) (rs : List Row) (all : List Reading) where
  abbrev Over : Reading → Reading → Bool
  Over x y = over o (node_keys ks rs x.items) (node_keys ks rs y.items)

  -- none of the first n is over the reading at i
  abbrev pub Kept : ℕ → ℕ → Type 0
  Kept n i = (k : ℕ) (d : Reading) → k < n → Over (get_or all k d) (get_or all i d) ≡ false

  -- that at i is over each before it, if all have as many entries
  abbrev pub First : ℕ → Type 0
  First i = (n : ℕ) → EachHas n all → (k : ℕ) (d : Reading) → k < i → Over (get_or all i d) (get_or all k d) ≡ true

  pub over_of : (n i : ℕ) → n < length all → i < length all → (x y : Reading) → x ≡ get_or all n x → y ≡ get_or all i y → (d : Reading) → Over (get_or all n d) (get_or all i d) ≡ Over x y
  over_of n i a b x y e f d = ap (λ z. Over z (get_or all i d)) (get_or_default all n d x a ∙ sym e) ∙ ap (λ z. Over x z) (get_or_default all i d y b ∙ sym f)

  pub kept_more : (n i : ℕ) → Kept n i → ((d : Reading) → Over (get_or all n d) (get_or all i d) ≡ false) → Kept (n + 1) i
  kept_more n i g h k d lt = below_more (λ m. Over (get_or all m d) (get_or all i d) ≡ false) n (λ m l. g m d l) (h d) k lt

  pub kept_next : (n i : ℕ) → Kept n i → ((d : Reading) → Over (get_or all n d) (get_or all i d) ≡ true) → Kept (n + 1) n
  kept_next n i g h k d lt = below_more (λ m. Over (get_or all m d) (get_or all n d) ≡ false) n (λ m l. over_keeps o _ (node_keys ks rs (get_or all i d).items) _ (g m d l) (h d)) (over_same o (node_keys ks rs (get_or all n d).items)) k lt

  pub first_next : (n i : ℕ) → n < length all → i < n → Kept n i → ((d : Reading) → Over (get_or all n d) (get_or all i d) ≡ true) → First n
  first_next n i a b g h m each k d lt =
      let e : vec_len (get_or all i d) ≡ vec_len (get_or all k d) = omega (arith, each i d, each k d) in
      let l = as_many_keys ks rs (get_or all i d).items (get_or all k d).items (omega (arith, e, (get_or all i d).ok.0, (get_or all k d).ok.0)) in
      over_passes o (node_keys ks rs (get_or all k d).items) (node_keys ks rs (get_or all i d).items) (node_keys ks rs (get_or all n d).items) l (g k d lt) (h d)
