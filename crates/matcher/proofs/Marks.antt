-- What is put into the bench as it is asked for more.
use Rattle.std.proofs.Common.{◌≡◌, ℕ, ◌<◌, ◌≤◌, true, false, List, length, get_or, set, sym, refl, ap, ◌∙◌, subst, inl, inr, arith}
use native.Mathlib.Decide.{ℕ_discrete}
use Rattle.std.proofs.lemmas.List.{get_or-set_same, get_or-set_other}
use Rattle.rules.specs.declared.row.Row.{Row}
use Rattle.rules.specs.Trees.{Tree}
use Rattle.rules.specs.Languages.{Sight, In, part}
use Rattle.rules.specs.Nodes.{Stands}
use Rattle.matcher.specs.Unpacking.{place, cell}
use Rattle.matcher.specs.Benches.{Room, Sound, Marked, Grown}
use Rattle.matcher.proofs.Places.{Same, same_cell}

pub apart : {A : Type 0} → true ≡ false → A
apart e = let k : ◌≡◌ {A = ℕ} 0 1 = cc in absurd (omega arith)

pub marked_same : (bs : List ℕ) → Marked bs bs
marked_same bs = record { at = λ a. inl refl }

pub marked_on : (a b c : List ℕ) → Marked a b → Marked b c → Marked a c
marked_on a b c f g = record {
  at = λ x. elim (g.at x) [
    | inl e ↦ elim (f.at x) [ inl u ↦ inl (e ∙ u) | inr u ↦ inr (u.0, omega (arith, e, u.1)) ]
    | inr e ↦ elim (f.at x) [ inl u ↦ inr (sym u ∙ e.0, e.1) | inr u ↦ inr (u.0, e.1) ]
  ];
}

pub grown_same : (bs : List ℕ) → Grown bs bs
grown_same bs = record { at = λ a x y. refl }

pub grown_on : (a b c : List ℕ) → Grown a b → Grown b c → Grown a c
grown_on a b c f g = record { at = λ x u v. let e = f.at x u v in g.at x (omega (arith, e, u)) (omega (arith, e, v)) ∙ e }

pub marked_grown : (a b : List ℕ) → Marked a b → Grown a b
marked_grown a b f = record { at = λ x u v. elim (f.at x) [ inl e ↦ e | inr e ↦ absurd (omega (arith, e.0)) ] }

pub room_kept : (nodes n : ℕ) (bs bs' : List ℕ) → length bs' ≡ length bs → Room nodes n bs → Room nodes n bs'
room_kept nodes n bs bs' e r = record { nodes_few = r.nodes_few; name_short = r.name_short; cells = omega (arith, r.cells, e) }

-- one cell is given a value
module _ (rs : List Row) (w : List Sight) (n : ℕ) (bs : List ℕ) (m i j v : ℕ) (l : i ≤ j) (u : j ≤ n) (in-bench : place n m i j < length bs) where
  abbrev new : List ℕ
  new = set bs (place n m i j) v

  pub here : cell n new m i j ≡ v
  here = get_or-set_same bs (place n m i j) v 0 in-bench

  pub elsewhere : (a : ℕ) → (a ≡ place n m i j → ⊥) → get_or new a 0 ≡ get_or bs a 0
  elsewhere a f = get_or-set_other bs (place n m i j) a v 0 f

  at_one : (m' i' j' : ℕ) → i' ≤ j' → j' ≤ n → place n m' i' j' ≡ place n m i j → Same m' i' j' m i j
  at_one m' i' j' a b e = same_cell n m' i' j' m i j (omega arith) b (omega arith) u e

  moved : (m' i' j' : ℕ) (s : Tree) → Same m' i' j' m i j → Stands rs m' s → Stands rs m s
  moved m' i' j' s f h = let P : ℕ → Type 0 = λ x. Stands rs x s in subst P f.node h

  words : (m' i' j' : ℕ) → Same m' i' j' m i j → part w i' j' ≡ part w i j
  words m' i' j' f = ap (λ x. part w x j') f.start ∙ ap (λ x. part w i x) f.end

  pub put_sound : Sound rs w n bs → ((v ≡ 0 → ⊥) → (v ≡ 255 → ⊥) → (s : Tree) → Stands rs m s → In s (part w i j)) → (v ≡ 255 → (s : Tree) → Stands rs m s → In s (part w i j) → ⊥) → Sound rs w n new
  put_sound sound f-yes f-no = record {
    has = λ m' i' j' s h a b x y. elim (ℕ_discrete (place n m' i' j') (place n m i j)) [
      | yes e ↦ (let f = at_one m' i' j' a b e in
          let c : cell n new m' i' j' ≡ v = ap (λ z. get_or new z 0) e ∙ here in
          let P : List Sight → Type 0 = λ z. In s z in
          subst P (sym (words m' i' j' f)) (f-yes (λ z. x (c ∙ z)) (λ z. y (c ∙ z)) s (moved m' i' j' s f h)))
      | no e ↦ (let c = elsewhere (place n m' i' j') e in sound.has m' i' j' s h a b (λ z. x (c ∙ z)) (λ z. y (c ∙ z)))
    ];
    lacks = λ m' i' j' s h a b x y. elim (ℕ_discrete (place n m' i' j') (place n m i j)) [
      | yes e ↦ (let f = at_one m' i' j' a b e in
          let c : cell n new m' i' j' ≡ v = ap (λ z. get_or new z 0) e ∙ here in
          let P : List Sight → Type 0 = λ z. In s z in
          f-no (sym c ∙ x) s (moved m' i' j' s f h) (subst P (words m' i' j' f) y))
      | no e ↦ (let c = elsewhere (place n m' i' j') e in sound.lacks m' i' j' s h a b (sym c ∙ x) y)
    ];
  }

  pub put_marked : cell n bs m i j ≡ 0 → 254 ≤ v → Marked bs new
  put_marked z k = record {
    at = λ a. elim (ℕ_discrete a (place n m i j)) [
      | yes e ↦ inr (ap (λ x. get_or bs x 0) e ∙ z, (let c : get_or new a 0 ≡ v = ap (λ x. get_or new x 0) e ∙ here in omega arith))
      | no e ↦ inl (elsewhere a e)
    ];
  }
