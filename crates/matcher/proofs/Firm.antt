-- The best readings stay the best as the bench grows.
use Rattle.std.proofs.Common.{◌≡◌, ℕ, ◌<◌, ◌≤◌, Bool, ◌⊎◌, List, length, get_or, set, sym, refl, ap, ◌∙◌, subst, inl, inr, arith}
use native.Mathlib.Decide.{ℕ_discrete}
use Rattle.rules.specs.declared.row.Row.{Row}
use Rattle.rules.specs.Trees.{Tree}
use Rattle.rules.specs.Languages.{Sight}
use Rattle.rules.specs.Readings.{Reading, stretch}
use Rattle.policies.specs.Orders.{Order}
use Rattle.matcher.specs.Unpacking.{place, cell, unpacked}
use Rattle.matcher.specs.Benches.{Marked, Grown, BestAt, Held, Solved, Right}
use Rattle.matcher.specs.States.{Told, BothTold, Present, Coded, Settled, Got}
use Rattle.matcher.proofs.Places.{Same, same_cell}
use Rattle.matcher.proofs.Marks.{grown_on, marked_grown, put_sound, here, elsewhere}

pub held_on : (above : Order) (t : Tree) (w : List Sight) (n : ℕ) (bs bs' : List ℕ) (s : Tree) (m i j c : ℕ) → Grown bs bs' → Held above t w n bs s m i j c → Held above t w n bs' s m i j c
held_on above t w n bs bs' s m i j c g h =
    let P : Reading → Type 0 = λ x. BestAt above t w s m i j x in
    record { best = subst P (h.fixed bs' g) h.best; fixed = λ bs'' f. sym (h.fixed bs' g) ∙ h.fixed bs'' (grown_on bs bs' bs'' g f) }

-- the reading of a part whose code is in the bench
pub part_fixed : (above : Order) (t : Tree) (w : List Sight) (n : ℕ) (bs bs' : List ℕ) (s : Tree) (m i j : ℕ) → Grown bs bs' → 0 < cell n bs m i j → cell n bs m i j < 254 → Held above t w n bs s m i j (cell n bs m i j)
    → unpacked n bs s m (stretch i j) (cell n bs m i j) ≡ unpacked n bs' s m (stretch i j) (cell n bs' m i j)
part_fixed above t w n bs bs' s m i j g a b h = h.fixed bs' g ∙ ap (λ c. unpacked n bs' s m (stretch i j) c) (sym (g.at (place n m i j) a b))

module _ (above : Order) (rs : List Row) (w : List Sight) (n : ℕ) (bs bs' : List ℕ) (grown : Grown bs bs') where
  as_held : (t : Tree) (s : Tree) (m i j c d : ℕ) → d ≡ c → Held above t w n bs s m i j c → Held above t w n bs' s m i j d
  as_held t s m i j c d e h = let P : ℕ → Type 0 = λ x. Held above t w n bs' s m i j x in subst P (sym e) (held_on above t w n bs bs' s m i j c grown h)

  solved_on : Solved above rs w n bs → ((m i j : ℕ) → i ≤ j → j ≤ n → 0 < cell n bs' m i j → cell n bs' m i j < 254 → (cell n bs' m i j ≡ cell n bs m i j) ⊎ Coded above rs w n bs m i j (cell n bs' m i j)) → Solved above rs w n bs'
  solved_on f g = record {
    at = λ t e m i j s b l u x y. elim (g m i j l u x y) [
      | inl z ↦ as_held t s m i j (cell n bs m i j) (cell n bs' m i j) z (f.at t e m i j s b l u (omega (arith, z, x)) (omega (arith, z, y)))
      | inr z ↦ as_held t s m i j (cell n bs' m i j) (cell n bs' m i j) refl (z.held t e s b)
    ];
  }

pub solved_marked : (above : Order) (rs : List Row) (w : List Sight) (n : ℕ) (bs bs' : List ℕ) → Marked bs bs' → Solved above rs w n bs → Solved above rs w n bs'
solved_marked above rs w n bs bs' f h = solved_on above rs w n bs bs' (marked_grown bs bs' f) h
    (λ m i j l u x y. elim (f.at (place n m i j)) [ inl e ↦ inl e | inr e ↦ absurd (omega (arith, e.1)) ])

pub right_told : (above : Order) (rs : List Row) (w : List Sight) (n : ℕ) (bs bs' : List ℕ) (m i j : ℕ) (r : Bool) → Right above rs w n bs → Told rs w n bs bs' m i j r → Right above rs w n bs'
right_told above rs w n bs bs' m i j r h f = record { sound = f.sound; solved = solved_marked above rs w n bs bs' f.marked h.solved }

pub right_both : (above : Order) (rs : List Row) (w : List Sight) (n : ℕ) (bs bs' : List ℕ) (p q i k j : ℕ) (r : Bool) → Right above rs w n bs → BothTold rs w n bs bs' p q i k j r → Right above rs w n bs'
right_both above rs w n bs bs' p q i k j r h f = record { sound = f.sound; solved = solved_marked above rs w n bs bs' f.marked h.solved }

-- a code is put into the bench
module _ (above : Order) (rs : List Row) (w : List Sight) (n : ℕ) (bs : List ℕ) (m i j v : ℕ) (l : i ≤ j) (u : j ≤ n) (in-bench : place n m i j < length bs) where
  abbrev new : List ℕ
  new = set bs (place n m i j) v

  put_grown : (0 < cell n bs m i j → cell n bs m i j < 254 → ⊥) → Grown bs new
  put_grown f = record {
    at = λ a x y. elim (ℕ_discrete a (place n m i j)) [
      | yes e ↦ (let c : get_or bs a 0 ≡ cell n bs m i j = ap (λ z. get_or bs z 0) e in absurd (f (omega (arith, c, x)) (omega (arith, c, y))))
      | no e ↦ elsewhere rs w n bs m i j v l u in-bench a e
    ];
  }

  moved_code : (m' i' j' d : ℕ) → Same m' i' j' m i j → d ≡ v → Coded above rs w n bs m i j v → Coded above rs w n bs m' i' j' d
  moved_code m' i' j' d f e h =
      let P : ℕ → Type 0 = λ x. Coded above rs w n bs x i j v in
      let Q : ℕ → Type 0 = λ x. Coded above rs w n bs m' x j v in
      let R : ℕ → Type 0 = λ x. Coded above rs w n bs m' i' x v in
      let S : ℕ → Type 0 = λ x. Coded above rs w n bs m' i' j' x in
      subst S (sym e) (subst R (sym f.end) (subst Q (sym f.start) (subst P (sym f.node) h)))

  put_solved : (0 < cell n bs m i j → cell n bs m i j < 254 → ⊥) → Coded above rs w n bs m i j v → Solved above rs w n bs → Solved above rs w n new
  put_solved f h s = solved_on above rs w n bs new (put_grown f) s (λ m' i' j' a b x y. elim (ℕ_discrete (place n m' i' j') (place n m i j)) [
    | yes e ↦ inr (moved_code m' i' j' (cell n new m' i' j') (same_cell n m' i' j' m i j (omega arith) b (omega arith) u e) (ap (λ z. get_or new z 0) e ∙ here rs w n bs m i j v l u in-bench) h)
    | no e ↦ inl (elsewhere rs w n bs m i j v l u in-bench (place n m' i' j') e)
  ])

  put_right : (0 < cell n bs m i j → cell n bs m i j < 254 → ⊥) → Coded above rs w n bs m i j v → Present rs w m i j → Right above rs w n bs → Right above rs w n new
  put_right f h p r = record {
    sound = put_sound rs w n bs m i j v l u in-bench r.sound (λ _ _. p) (λ e. absurd (omega (arith, h.small)));
    solved = put_solved f h r.solved;
  }

  pub put_fresh : (old : List ℕ) → Present rs w m i j → (0 < cell n bs m i j → cell n bs m i j < 254 → ⊥) → Got above rs w n old bs m i j v → Settled above rs w n old new m i j
  put_fresh old p f g =
      let c = here rs w n bs m i j v l u in-bench in
      record { right = put_right f g.coded p g.right; grown = grown_on old bs new g.grown (put_grown f); some = omega (arith, c, g.coded.some); small = omega (arith, c, g.coded.small) }
