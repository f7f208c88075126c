-- A reading of a part that is at least another makes the whole at least the other whole.
use Rattle.std.proofs.Common.{◌≡◌, ℕ, suc, ◌+◌, ◌≤◌, true, List, ◌∷◌, ◌++◌, sym, ap, subst, inl, inr, arith}
use Rattle.rules.specs.Trees.{Tree, choice, sequence, size, rows, Bound}
use Rattle.rules.specs.Languages.{Sight}
use Rattle.rules.specs.Readings.{Reading, Reads, stretch, nothing}
use Rattle.policies.specs.Orders.{Order, Decided, Replaced}
use Rattle.matcher.specs.Benches.{AtLeast}

module _ (above : Order) (decided : Decided above) (replaced : Replaced above) (t : Tree) (few : size t ≤ 64) (w : List Sight) where
  shift : (m k : ℕ) (x y : Reading) → m ≡ k → above (rows t) m x y ≡ true → above (rows t) k x y ≡ true
  shift m k x y e h = let P : ℕ → Type 0 = λ z. above (rows t) z x y ≡ true in subst P e h

  pub trans : (m : ℕ) (s : Tree) → Bound t m s → (i j : ℕ) (x y z : Reading) → Reads w s i j x → Reads w s i j y → Reads w s i j z → AtLeast above (rows t) m x y → AtLeast above (rows t) m y z → AtLeast above (rows t) m x z
  trans m s b i j x y z rx ry rz (inl e) g = let P : Reading → Type 0 = λ v. AtLeast above (rows t) m v z in subst P (sym e) g
  trans m s b i j x y z rx ry rz (inr h) (inl e) = inr (let P : Reading → Type 0 = λ v. above (rows t) m x v ≡ true in subst P e h)
  trans m s b i j x y z rx ry rz (inr h) (inr k) = inr (decided.carries t few m s b w i j x y z rx ry rz h k)

  pub same_right : (m : ℕ) (x y z : Reading) → y ≡ z → AtLeast above (rows t) m x y → AtLeast above (rows t) m x z
  same_right m x y z e h = let P : Reading → Type 0 = λ v. AtLeast above (rows t) m x v in subst P e h

  pub same_left : (m : ℕ) (x y z : Reading) → x ≡ y → AtLeast above (rows t) m x z → AtLeast above (rows t) m y z
  same_left m x y z e h = let P : Reading → Type 0 = λ v. AtLeast above (rows t) m v z in subst P e h

  module _ (m i j : ℕ) (p q : Tree) (bound : Bound t m (choice p q)) where
    pub lift_first : (x y : Reading) → Reads w p i j x → Reads w p i j y → AtLeast above (rows t) (m + 1) x y → AtLeast above (rows t) m (stretch i j ∷ (x ++ nothing q)) (stretch i j ∷ (y ++ nothing q))
    lift_first x y rx ry (inl e) = inl (ap (λ (z : Reading). stretch i j ∷ (z ++ nothing q)) e)
    lift_first x y rx ry (inr h) = inr (replaced.choice_first t few m p q bound w i j x y rx ry (shift (m + 1) (suc m) x y (omega arith) h))

    pub lift_second : (x y : Reading) → Reads w q i j x → Reads w q i j y → AtLeast above (rows t) (m + 1 + size p) x y → AtLeast above (rows t) m (stretch i j ∷ (nothing p ++ x)) (stretch i j ∷ (nothing p ++ y))
    lift_second x y rx ry (inl e) = inl (ap (λ (z : Reading). stretch i j ∷ (nothing p ++ z)) e)
    lift_second x y rx ry (inr h) = inr (replaced.choice_second t few m p q bound w i j x y rx ry (shift (m + 1 + size p) (suc (size p + m)) x y (omega arith) h))

  module _ (m i j : ℕ) (p q : Tree) (bound : Bound t m (sequence p q)) where
    pub lift_left : (k : ℕ) (x y z : Reading) → Reads w p i k x → Reads w p i k y → Reads w q k j z → AtLeast above (rows t) (m + 1) x y → AtLeast above (rows t) m (stretch i j ∷ (x ++ z)) (stretch i j ∷ (y ++ z))
    lift_left k x y z rx ry rz (inl e) = inl (ap (λ (v : Reading). stretch i j ∷ (v ++ z)) e)
    lift_left k x y z rx ry rz (inr h) = inr (replaced.sequence_first t few m p q bound w i k j x y z rx ry rz (shift (m + 1) (suc m) x y (omega arith) h))

    pub lift_right : (k : ℕ) (z x y : Reading) → Reads w p i k z → Reads w q k j x → Reads w q k j y → AtLeast above (rows t) (m + 1 + size p) x y → AtLeast above (rows t) m (stretch i j ∷ (z ++ x)) (stretch i j ∷ (z ++ y))
    lift_right k z x y rz rx ry (inl e) = inl (ap (λ (v : Reading). stretch i j ∷ (z ++ v)) e)
    lift_right k z x y rz rx ry (inr h) = inr (replaced.sequence_second t few m p q bound w i k j z x y rz rx ry (shift (m + 1 + size p) (suc (size p + m)) x y (omega arith) h))
