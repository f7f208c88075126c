-- What each call gives that solves a stretch, from what the calls in it gave.
use Rattle.std.proofs.Common.{◌≡◌, ℕ, ◌+◌, ◌<◌, ◌≤◌, Bool, false, ◌⊎◌, List, ◌∷◌, length, set, sym, ap, ◌∙◌, subst, inl, inr, arith}
use native.Mathlib.Decide.{dec_lt, ℕ_discrete}
use Rattle.rules.specs.declared.row.Row.{Row}
use Rattle.rules.specs.Trees.{Tree, choice, sequence, size, Of, Bound}
use Rattle.rules.specs.Languages.{Sight, In, part}
use Rattle.rules.specs.Readings.{Reads, stretch}
use Rattle.rules.proofs.OneTree.{trees, trees_rows}
use Rattle.rules.proofs.Parts.{choice_parts}
use Rattle.policies.specs.Orders.{Order, Decided, Replaced}
use Rattle.matcher.specs.declared.frame.Frame.{Frame}
use Rattle.matcher.specs.declared.frame.Spot.{Spot}
use Rattle.rules.specs.Nodes.{Stands}
use Rattle.matcher.specs.Frames.{second_node, Laid, On}
use Rattle.matcher.specs.Unpacking.{place, cell, unpacked}
use Rattle.matcher.specs.Benches.{Grown, Held, Solved, Right}
use Rattle.matcher.specs.States.{Reach, Told, BothTold, Present, Keeps, Settled, Got, BothCoded, Prepared, Ready}
use Rattle.rules.proofs.Nodes.{choice_first, choice_second, sequence_first, sequence_second}
use Rattle.matcher.proofs.AtSpot.{names}
use Rattle.matcher.proofs.Halves.{front_moved, back_moved}
use Rattle.matcher.proofs.Nodes.{kind_at, found}
use Rattle.matcher.proofs.Framed.{framed}
use Rattle.matcher.proofs.Places.{place_in}
use Rattle.matcher.proofs.ByKind.{by_choice}
use Rattle.matcher.proofs.Bounds.{bound_stands, few_nodes, choice_left, choice_right}
use Rattle.matcher.proofs.Marks.{grown_same, grown_on, marked_on, marked_grown}
use Rattle.matcher.proofs.Firm.{solved_marked, put_fresh}
use Rattle.matcher.proofs.ChoiceCodes.{only_first, only_second, better, reads_one, reads_two}

-- one tree stands at a node
same_stands : (rs : List Row) (m : ℕ) (s s' : Tree) → Stands rs m s → Stands rs m s' → s ≡ s'
same_stands rs m s s' h h' =
    let e : s ∷ trees h.rest ≡ s' ∷ trees h'.rest = sym (trees_rows s h.rest) ∙ (ap trees (sym h.is ∙ h'.is) ∙ trees_rows s' h'.rest) in
    cc

-- a sequence: the codes of the halves of its splits
pub coded_on : (n : ℕ) (bs bs' : List ℕ) (p q i h j : ℕ) → Grown bs bs' → BothCoded n bs p q i h j → BothCoded n bs' p q i h j
coded_on n bs bs' p q i h j g c =
    let x = g.at (place n p i h) c.first_some c.first_small in
    let y = g.at (place n q h j) c.second_some c.second_small in
    record { first_some = omega (arith, x, c.first_some); first_small = omega (arith, x, c.first_small); second_some = omega (arith, y, c.second_some); second_small = omega (arith, y, c.second_small) }

module _ (above : Order) (f : Frame) (w : List Sight) (s : Spot) (on : On f s) where
  open (names f s) use {rs, n, m, i, j}
  open on use {start as l, end as u}
  open (framed f) use {sizes as sized, few}

  module _ (decided : Decided above) (replaced : Replaced above) (kind : kind_at rs m ≡ 2) where
    abbrev second : ℕ
    second = second_node f m

    second_is : (p q : Tree) → Stands rs m (choice p q) → second ≡ m + 1 + size p
    second_is p q h = ap (λ k. m + 1 + k) (sized.sizes (m + 1) p (omega arith) (choice_first rs m p q h))

    second_at : (p q : Tree) → Stands rs m (choice p q) → Stands rs second q
    second_at p q h = let P : ℕ → Type 0 = λ k. Stands rs k q in subst P (sym (second_is p q h)) (choice_second rs m p q h)

    pub present_second : (bs one : List ℕ) (r : Bool) → Present rs w m i j → r ≡ false → Told rs w n bs one (m + 1) i j r → Present rs w second i j
    present_second bs one r present e t x h =
        let o = found rs (framed f).tree m on.node in
        by_choice rs m (λ _. In x (part w i j)) kind (λ p q c. elim ((choice_parts w p q i j).0 (present (choice p q) c)) [
          | inl a ↦ absurd ((t.says p (choice_first rs m p q c)).lacks e a)
          | inr a ↦ (let P : Tree → Type 0 = λ v. In v (part w i j) in subst P (same_stands rs second q x (second_at p q c) h) a)
        ]) o.tree o.stands

    -- the held codes of the parts of a choice with no star above
    module _ (bs : List ℕ) (solved : Solved above rs w n bs) (t : Tree) (e : Of rs t) (p q : Tree) (b : Bound t m (choice p q)) where
      held_first : 0 < cell n bs (m + 1) i j → cell n bs (m + 1) i j < 254 → (0 < cell n bs (m + 1) i j) × (cell n bs (m + 1) i j < 254) × Held above t w n bs p (m + 1) i j (cell n bs (m + 1) i j)
      held_first x y = (x, y, solved.at t e (m + 1) i j p (choice_left t p q m b) l u x y)

      held_second : 0 < cell n bs second i j → cell n bs second i j < 254 → (0 < cell n bs (m + 1 + size p) i j) × (cell n bs (m + 1 + size p) i j < 254) × Held above t w n bs q (m + 1 + size p) i j (cell n bs (m + 1 + size p) i j)
      held_second x y =
          let k = second_is p q (bound_stands rs t (choice p q) m e b) in
          let P : ℕ → Type 0 = λ z. 0 < cell n bs z i j in
          let Q : ℕ → Type 0 = λ z. cell n bs z i j < 254 in
          let c = subst P k x in
          let d = subst Q k y in
          (c, d, solved.at t e (m + 1 + size p) i j q (choice_right t p q m b) l u c d)

    held_choice : (bs : List ℕ) (r : ℕ) → ((t : Tree) → Of rs t → (p q : Tree) → Bound t m (choice p q) → Held above t w n bs (choice p q) m i j r) → (t : Tree) → Of rs t → (s : Tree) → Bound t m s → Held above t w n bs s m i j r
    held_choice bs r f t e s b = by_choice rs m (λ s. Bound t m s → Held above t w n bs s m i j r) kind (λ p q _ c. f t e p q c) s (bound_stands rs t s m e b) b

    pub got_second : (bs one two : List ℕ) (r : Bool) → r ≡ false → Told rs w n bs one (m + 1) i j r → Settled above rs w n one two second i j → Got above rs w n bs two m i j 2
    got_second bs one two r e t s = record {
      right = s.right;
      grown = grown_on bs one two (marked_grown bs one t.marked) s.grown;
      coded = record {
        some = omega arith;
        small = omega arith;
        held = held_choice two 2 (λ t' e' p q b.
            only_second above decided replaced t' (few_nodes rs t' e' few) w m i j p q b n two (held_second two s.right.solved t' e' p q b s.some s.small) ((t.says p (choice_first rs m p q (bound_stands rs t' (choice p q) m e' b))).lacks e));
      };
    }

    pub got_first : (bs one two three : List ℕ) (r r' : Bool) → r' ≡ false → Told rs w n bs one (m + 1) i j r → Told rs w n one two second i j r' → Settled above rs w n two three (m + 1) i j → Got above rs w n bs three m i j 1
    got_first bs one two three r r' e t t' s = record {
      right = s.right;
      grown = grown_on bs two three (marked_grown bs two (marked_on bs one two t.marked t'.marked)) s.grown;
      coded = record {
        some = omega arith;
        small = omega arith;
        held = held_choice three 1 (λ x e' p q b.
            only_first above decided replaced x (few_nodes rs x e' few) w m i j p q b n three (held_first three s.right.solved x e' p q b s.some s.small) ((t'.says q (second_at p q (bound_stands rs x (choice p q) m e' b))).lacks e));
      };
    }

    pub got_better : (bs one two three four : List ℕ) (r r' : Bool) → Told rs w n bs one (m + 1) i j r → Told rs w n one two second i j r' → Settled above rs w n two three (m + 1) i j → Settled above rs w n three four second i j
        → (v : ℕ) → (v ≡ 1) ⊎ (v ≡ 2) → Keeps above rs n four m i j 1 2 v → Got above rs w n bs four m i j v
    got_better bs one two three four r r' t t' s s' v d keeps =
        let c = s'.grown.at (place n (m + 1) i j) s.some s.small in
        let x : 0 < cell n four (m + 1) i j = omega (arith, c, s.some) in
        let y : cell n four (m + 1) i j < 254 = omega (arith, c, s.small) in
        record {
          right = s'.right;
          grown = grown_on bs three four (grown_on bs two three (marked_grown bs two (marked_on bs one two t.marked t'.marked)) s.grown) s'.grown;
          coded = record {
            some = elim d [ inl z ↦ omega arith | inr z ↦ omega arith ];
            small = elim d [ inl z ↦ omega arith | inr z ↦ omega arith ];
            held = held_choice four v (λ t₀ e p q b.
                let f = held_first four s'.right.solved t₀ e p q b x y in
                let g = held_second four s'.right.solved t₀ e p q b s'.some s'.small in
                better above decided replaced t₀ (few_nodes rs t₀ e few) w m i j p q b n four f g v (keeps t₀ (choice p q) w e b (λ z. absurd (omega arith)) (only_reads_one t₀ e p q b f) (only_reads_two t₀ e p q b g)) d);
          };
        }
      where
        only_reads_one : (t₀ : Tree) → Of rs t₀ → (p q : Tree) → (b : Bound t₀ m (choice p q)) → (0 < cell n four (m + 1) i j) × (cell n four (m + 1) i j < 254) × Held above t₀ w n four p (m + 1) i j (cell n four (m + 1) i j) → Reads w (choice p q) i j (unpacked n four (choice p q) m (stretch i j) 1)
        only_reads_one t₀ e p q b f = reads_one above decided replaced t₀ (few_nodes rs t₀ e few) w m i j p q b n four f

        only_reads_two : (t₀ : Tree) → Of rs t₀ → (p q : Tree) → (b : Bound t₀ m (choice p q)) → (0 < cell n four (m + 1 + size p) i j) × (cell n four (m + 1 + size p) i j < 254) × Held above t₀ w n four q (m + 1 + size p) i j (cell n four (m + 1 + size p) i j) → Reads w (choice p q) i j (unpacked n four (choice p q) m (stretch i j) 2)
        only_reads_two t₀ e p q b g = reads_two above decided replaced t₀ (few_nodes rs t₀ e few) w m i j p q b n four g

  module _ (long : length w ≡ n) where
    abbrev after : ℕ
    after = second_node f m

    abbrev Below : List ℕ → List ℕ → ℕ → Type 0
    Below bs one k = Prepared above rs w n bs one m (second_node f m) i j k

    after_at : (p q : Tree) → Stands rs m (sequence p q) → Stands rs after q
    after_at p q h = let P : ℕ → Type 0 = λ k. Stands rs k q in subst P (sym (ap (λ k. m + 1 + k) (sized.sizes (m + 1) p (omega arith) (sequence_first rs m p q h)))) (sequence_second rs m p q h)

    pub prepared_none : (bs : List ℕ) (a b : ℕ) → Reach rs (m + 1) after i j a b → Right above rs w n bs → Below bs bs a
    prepared_none bs a b f r = record {
      right = r;
      grown = grown_same bs;
      coded = λ p q h d x y c z.
          let o = f.only w (omega arith) p q (sequence_first rs m p q h) (after_at p q h) d x (omega (arith, f.order, f.to)) c z in absurd (omega (arith, o.0));
    }

    pub prepared_all : (bs one : List ℕ) (a b k : ℕ) → Reach rs (m + 1) after i j a b → b ≤ k → Below bs one k → Below bs one (j + 1)
    prepared_all bs one a b k f v r = record {
      right = r.right;
      grown = r.grown;
      coded = λ p q h d x y c z.
          let o = f.only w (omega arith) p q (sequence_first rs m p q h) (after_at p q h) d x (omega arith) c z in r.coded p q h d x (omega (arith, o.1)) c z;
    }

    -- one split more
    more : (bs one two : List ℕ) (k : ℕ) → Grown one two → Right above rs w n two → Below bs one k
        → ((p q : Tree) → Stands rs m (sequence p q) → In p (part w i k) → In q (part w k j) → BothCoded n two (m + 1) (second_node f m) i k j) → Below bs two (k + 1)
    more bs one two k g r past new = record {
      right = r;
      grown = grown_on bs one two past.grown g;
      coded = λ p q h d x y c z. elim (ℕ_discrete d k) [
        | yes e ↦ (let P : ℕ → Type 0 = λ v. BothCoded n two (m + 1) (second_node f m) i v j in
            subst P (sym e) (new p q h (front_moved w e p i c) (back_moved w e q j z)))
        | no e ↦ coded_on n one two (m + 1) (second_node f m) i d j g (past.coded p q h d x (omega arith) c z)
      ];
    }

    pub prepared_skip : (bs one two : List ℕ) (k : ℕ) (r : Bool) → r ≡ false → Below bs one k → BothTold rs w n one two (m + 1) after i k j r → Below bs two (k + 1)
    prepared_skip bs one two k r e f t = more bs one two k (marked_grown one two t.marked)
        (record { sound = t.sound; solved = solved_marked above rs w n one two t.marked f.right.solved }) f
        (λ p q h a b. absurd (t.neither e p q (sequence_first rs m p q h) (after_at p q h) a b))

    pub prepared_solved : (bs one two three four : List ℕ) (k : ℕ) (r : Bool) → Below bs one k → BothTold rs w n one two (m + 1) after i k j r → Settled above rs w n two three (m + 1) i k → Settled above rs w n three four after k j → Below bs four (k + 1)
    prepared_solved bs one two three four k r f t p q =
        let c = q.grown.at (place n (m + 1) i k) p.some p.small in
        more bs one four k (grown_on one three four (grown_on one two three (marked_grown one two t.marked) p.grown) q.grown) q.right f
        (λ _ _ _ _ _. record { first_some = omega (arith, c, p.some); first_small = omega (arith, c, p.small); second_some = q.some; second_small = q.small })

    pub ready_at : (bs one : List ℕ) → Present rs w m i j → Below bs one (j + 1) → Ready above rs w n one m (second_node f m) i j
    ready_at bs one present f = record { long = long; right = f.right; present = present; coded = λ p q h d x y c z. f.coded p q h d x (omega arith) c z }

  -- the code goes into the bench
  pub settled_put : (bs one two : List ℕ) (v : ℕ) → Laid f one → Present rs w m i j → Got above rs w n bs one m i j v
      → (0 < cell n one m i j → cell n one m i j < 254 → two ≡ one) → ((0 < cell n one m i j → cell n one m i j < 254 → ⊥) → two ≡ set one (place n m i j) v) → Settled above rs w n bs two m i j
  settled_put bs one two v laid present g known fresh =
      let P : List ℕ → Type 0 = λ x. Settled above rs w n bs x m i j in
      let in-bench = place_in (length rs) n one m i j laid on.node (omega arith) u in
      elim (dec_lt 0 (cell n one m i j)) [
        | yes a ↦ elim (dec_lt (cell n one m i j) 254) [
          | yes b ↦ subst P (sym (known a b)) (record { right = g.right; grown = g.grown; some = a; small = b })
          | no b ↦ subst P (sym (fresh (λ _ y. b y))) (put_fresh above rs w n one m i j v l u in-bench bs present (λ _ y. b y) g)
        ]
        | no a ↦ subst P (sym (fresh (λ x _. a x))) (put_fresh above rs w n one m i j v l u in-bench bs present (λ x _. a x) g)
      ]
