-- Lists of numbers, compared at the first place where they differ.
use Rattle.std.specs.Prelude.{◌≡◌, ℕ, ◌<◌, ◌≤◌, Bool, true, false, cond, ltb, ◌⊎◌, List, [], ◌∷◌, ◌++◌, length, ◌==◌, ◌≢◌, nat_eq, nat_lt, refl}
use Rattle.std.proofs.Common.{sym, ◌∙◌, subst, inl, inr, arith}
use borrow.Author.Tests.{ltb-true, ltb-false, eqb-true, eqb-false, lt-ltb, le-ltb, eq-eqb, clash}
use Rattle.policies.specs.Keys.{lex_above}

-- the ways to be above
abbrev LexCases : ℕ → List ℕ → ℕ → List ℕ → Type 0
LexCases x xs y ys = (y < x) ⊎ ((x ≡ y) × (lex_above xs ys ≡ true))

lex_cases : (x : ℕ) (xs : List ℕ) (y : ℕ) (ys : List ℕ) → lex_above (x ∷ xs) (y ∷ ys) ≡ true → LexCases x xs y ys
lex_cases x xs y ys h = go (nat_lt y x) refl (x == y) refl h
  where
    go : (a : Bool) → nat_lt y x ≡ a → (b : Bool) → (x == y) ≡ b → cond a true (cond b (lex_above xs ys) false) ≡ true → LexCases x xs y ys
    go true e b f h = inl (ltb-true y x e)
    go false e true f h = inr (eqb-true x y f, h)
    go false e false f h = absurd (clash h)

pub lex_greater : (x : ℕ) (xs : List ℕ) (y : ℕ) (ys : List ℕ) → y < x → lex_above (x ∷ xs) (y ∷ ys) ≡ true
lex_greater x xs y ys h = rw (lt-ltb y x h)

lex_same : (x : ℕ) (xs ys : List ℕ) → lex_above (x ∷ xs) (x ∷ ys) ≡ lex_above xs ys
lex_same x xs ys = let h : ltb x x ≡ false = le-ltb x x (omega arith) in let e : nat_eq x x ≡ true = eq-eqb x x refl in rw (h, e)

pub lex_after : (x : ℕ) (xs : List ℕ) (y : ℕ) (ys : List ℕ) → x ≡ y → lex_above xs ys ≡ true → lex_above (x ∷ xs) (y ∷ ys) ≡ true
lex_after x xs y ys e h = subst (λ (z : ℕ). lex_above (x ∷ xs) (z ∷ ys) ≡ true) e (lex_same x xs ys ∙ h)

pub lex_prefix : (zs xs ys : List ℕ) → lex_above (zs ++ xs) (zs ++ ys) ≡ lex_above xs ys
lex_prefix [] xs ys = refl
lex_prefix (z ∷ zs) xs ys = lex_same z (zs ++ xs) (zs ++ ys) ∙ lex_prefix zs xs ys

lex_not_itself : (xs : List ℕ) → lex_above xs xs ≡ false
lex_not_itself [] = refl
lex_not_itself (x ∷ xs) = lex_same x xs xs ∙ lex_not_itself xs

-- of two lists that are one, none is above
pub lex_one_not_above : (xs ys : List ℕ) → xs ≡ ys → lex_above xs ys ≢ true
lex_one_not_above xs ys e h = clash (sym (lex_not_itself ys) ∙ subst (λ (z : List ℕ). lex_above z ys ≡ true) e h)

pub lex_not_both : (xs ys : List ℕ) → lex_above xs ys ≡ true → lex_above ys xs ≢ true
lex_not_both [] ys h k = clash h
lex_not_both (x ∷ xs) [] h k = clash k
lex_not_both (x ∷ xs) (y ∷ ys) h k = go (lex_cases x xs y ys h) (lex_cases y ys x xs k) (lex_not_both xs ys)
  where
    go : LexCases x xs y ys → LexCases y ys x xs → (lex_above xs ys ≡ true → lex_above ys xs ≢ true) → ⊥
    go (inl a) (inl b) f = omega arith
    go (inl a) (inr b) f = omega arith
    go (inr a) (inl b) f = omega arith
    go (inr a) (inr b) f = f a.1 b.1

-- one of two different lists is above
abbrev LexOne : List ℕ → List ℕ → Type 0
LexOne xs ys = (xs ≡ ys) ⊎ ((lex_above xs ys ≡ true) ⊎ (lex_above ys xs ≡ true))

pub lex_one : (xs ys : List ℕ) → LexOne xs ys
lex_one [] [] = inl refl
lex_one [] (y ∷ ys) = inr (inr refl)
lex_one (x ∷ xs) [] = inr (inl refl)
lex_one (x ∷ xs) (y ∷ ys) = go (nat_lt y x) refl (x == y) refl (lex_one xs ys)
  where
    go : (a : Bool) → nat_lt y x ≡ a → (b : Bool) → (x == y) ≡ b → LexOne xs ys → LexOne (x ∷ xs) (y ∷ ys)
    go true e b f r = inr (inl (lex_greater x xs y ys (ltb-true y x e)))
    go false e true f (inl r) = inl (let g : x ≡ y = eqb-true x y f in cc)
    go false e true f (inr (inl r)) = inr (inl (lex_after x xs y ys (eqb-true x y f) r))
    go false e true f (inr (inr r)) = inr (inr (lex_after y ys x xs (sym (eqb-true x y f)) r))
    go false e false f r =
        let a : x ≤ y = ltb-false y x e in
        let b : x ≡ y → ⊥ = eqb-false x y f in
        inr (inr (lex_greater y ys x xs (omega arith)))

pub lex_carries : (xs ys zs : List ℕ) → lex_above xs ys ≡ true → lex_above ys zs ≡ true → lex_above xs zs ≡ true
lex_carries [] ys zs h k = absurd (clash h)
lex_carries (x ∷ xs) [] zs h k = absurd (clash k)
lex_carries (x ∷ xs) (y ∷ ys) [] h k = refl
lex_carries (x ∷ xs) (y ∷ ys) (z ∷ zs) h k = go (lex_cases x xs y ys h) (lex_cases y ys z zs k) (lex_carries xs ys zs)
  where
    go : LexCases x xs y ys → LexCases y ys z zs → (lex_above xs ys ≡ true → lex_above ys zs ≡ true → lex_above xs zs ≡ true) → lex_above (x ∷ xs) (z ∷ zs) ≡ true
    go (inl a) (inl b) f = lex_greater x xs z zs (omega arith)
    go (inl a) (inr b) f = lex_greater x xs z zs (omega arith)
    go (inr a) (inl b) f = lex_greater x xs z zs (omega arith)
    go (inr a) (inr b) f = lex_after x xs z zs (a.0 ∙ b.0) (f a.1 b.1)

-- lists of one length, the one above: it stays above whatever follows
pub lex_extend : (xs ys us vs : List ℕ) → length xs ≡ length ys → lex_above xs ys ≡ true → lex_above (xs ++ us) (ys ++ vs) ≡ true
lex_extend [] ys us vs l h = absurd (clash h)
lex_extend (x ∷ xs) [] us vs l h = absurd (omega arith)
lex_extend (x ∷ xs) (y ∷ ys) us vs l h = go (lex_cases x xs y ys h) (lex_extend xs ys us vs (omega arith))
  where
    go : LexCases x xs y ys → (lex_above xs ys ≡ true → lex_above (xs ++ us) (ys ++ vs) ≡ true) → lex_above (x ∷ (xs ++ us)) (y ∷ (ys ++ vs)) ≡ true
    go (inl a) f = lex_greater x (xs ++ us) y (ys ++ vs) a
    go (inr a) f = lex_after x (xs ++ us) y (ys ++ vs) a.0 (f a.1)
