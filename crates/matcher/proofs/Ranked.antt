-- The code that is kept of two.
use Rattle.std.proofs.Common.{◌≡◌, ℕ, ◌-◌, ◌≤◌, List, ◌++◌, length, take, Ordering, Less, Equal, Greater, true, false, is_lt, sym, refl, ap, ◌∙◌, subst, inl, inr, arith}
use Rattle.std.proofs.lemmas.List.{take_at}
use Rattle.rules.specs.declared.row.Row.{Row}
use Rattle.rules.specs.Trees.{Tree, rows, Of, Bound}
use Rattle.rules.specs.Languages.{Sight}
use Rattle.rules.specs.Readings.{Reading, Reads, stretch}
use Rattle.policies.specs.Orders.{Order, Ranks, Answers, rank_number}
use Rattle.matcher.specs.Unpacking.{unpacked}
use Rattle.matcher.specs.States.{Kept, Shows}
use Rattle.matcher.proofs.Marks.{apart}
use Rattle.matcher.proofs.Bounds.{bound_stands, few_nodes}

-- a reading that was written in front
pub shown_front : (rs : List Row) (n : ℕ) (bs : List ℕ) (m i j r k : ℕ) (out rest : Reading) → length out ≡ k → Shows rs n bs m i j r out → Shows rs n bs m i j r (take k (out ++ rest))
shown_front rs n bs m i j r k out rest l f s h = take_at out rest k l ∙ f s h

pub less : (o : Ordering) → is_lt o ≡ true → o ≡ Less
less Less e = refl
less Equal e = apart (sym e)
less Greater e = apart (sym e)

pub not_less : (o : Ordering) → is_lt o ≡ false → o ≡ Less → ⊥
not_less Less e = apart e
not_less Equal e = λ z. apart (sym (ap is_lt z))
not_less Greater e = λ z. apart (sym (ap is_lt z))

module _ (above : Order) (t s : Tree) (w : List Sight) (n : ℕ) (bs : List ℕ) (rs : List Row) (m i j a b k : ℕ) (u v : Reading) (r : Ordering) (e : Of rs t) (few : length rs ≤ 64) (bound : Bound t m s)
    (u-is : Shows rs n bs m i j a (take k u)) (v_is : Shows rs n bs m i j b (take k v))
    (reads-a : Reads w s i j (unpacked n bs s m (stretch i j) a)) (reads-b : Reads w s i j (unpacked n bs s m (stretch i j) b))
    (answers : Ranks above rs m (take (k - 0) u) (take (k - 0) v) r) where
  left : take (k - 0) u ≡ unpacked n bs s m (stretch i j) a
  left = ap (λ x. take x u) (omega arith) ∙ u-is s (bound_stands rs t s m e bound)

  right : take (k - 0) v ≡ unpacked n bs s m (stretch i j) b
  right = ap (λ x. take x v) (omega arith) ∙ v_is s (bound_stands rs t s m e bound)

  settled : Answers above (rows t) m (unpacked n bs s m (stretch i j) a) (unpacked n bs s m (stretch i j) b) r
  settled =
      let P : Reading → Type 0 = λ x. Reads w s i j x in
      let Q : Reading → Type 0 = λ x. Answers above rs m x (take (k - 0) v) r in
      let R : Reading → Type 0 = λ y. Answers above rs m (unpacked n bs s m (stretch i j) a) y r in
      let S : List Row → Type 0 = λ z. Answers above z m (unpacked n bs s m (stretch i j) a) (unpacked n bs s m (stretch i j) b) r in
      subst S e (subst R right (subst Q left (answers t s e (few_nodes rs t e few) bound w i j (subst P (sym left) reads-a) (subst P (sym right) reads-b))))

  pub kept_new : r ≡ Less → Kept above t w n bs s m i j a b b
  kept_new h = record { old = inr (settled.less.0 (ap rank_number h)); new = inl refl }

  by_case : (o : Ordering) → r ≡ o → (o ≡ Less → ⊥) → Kept above t w n bs s m i j a b a
  by_case Less h f = absurd (f refl)
  by_case Equal h f = record { old = inl refl; new = inl (settled.equal.0 (ap rank_number h)) }
  by_case Greater h f = record { old = inl refl; new = inr (settled.greater.0 (ap rank_number h)) }

  pub kept_old : (r ≡ Less → ⊥) → Kept above t w n bs s m i j a b a
  kept_old f = by_case r refl f

pub ranks_at : (above : Order) (rs : List Row) (m k : ℕ) (u v : Reading) (r : Ordering) → Ranks above rs m (take k u) (take k v) r → Ranks above rs m (take (k - 0) u) (take (k - 0) v) r
ranks_at above rs m k u v r f = let e : k ≡ k - 0 = omega arith in let P : ℕ → Type 0 = λ x. Ranks above rs m (take x u) (take x v) r in subst P e f
