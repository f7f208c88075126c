-- Whether a node has a stretch, from what its parts have.
use Rattle.std.proofs.Common.{◌≡◌, ℕ, ◌+◌, ◌<◌, ◌≤◌, Bool, true, false, eqb, ◌⊎◌, List, length, get_or, set, sym, ◌≢◌, refl, ap, ◌∙◌, subst, inl, inr, arith, eqb-true}
use native.Mathlib.Decide.{ℕ_discrete}
use borrow.Author.Tests.{eqb-false}
use Rattle.rules.specs.declared.row.Row.{Row}
use Rattle.rules.specs.Trees.{Tree, leaf, sequence, star, size, row}
use Rattle.rules.specs.Languages.{Sight, in_first, in_second, part}
use Rattle.rules.proofs.Parts.{empty_parts, choice_parts, sequence_split, sequence_join, star_split, star_join, star_parts}
use Rattle.matcher.specs.declared.bench.Cell.{Cell}
use Rattle.matcher.specs.declared.bench.Cell.TheVariants.{Has, Code}
use Rattle.matcher.specs.Cells.{CellOf}
use Rattle.matcher.specs.declared.frame.Frame.{Frame}
use Rattle.matcher.specs.declared.frame.Spot.{Spot}
use Rattle.rules.specs.Nodes.{Stands}
use Rattle.matcher.specs.Frames.{frame_rows, second_node, spot_cell, spot_place, Laid, On}
use Rattle.matcher.specs.Searches.{ToldAt, BothToldAt}
use Rattle.matcher.specs.Unpacking.{place, cell}
use Rattle.matcher.specs.Benches.{Sound}
use Rattle.matcher.specs.States.{Says, Reach, Told, BothTold, NoSplit, NoRound}
use Rattle.rules.proofs.Nodes.{stands_head, choice_first, choice_second, sequence_first, sequence_second, star_part}
use Rattle.matcher.proofs.AtSpot.{names}
use Rattle.matcher.proofs.Halves.{front_moved, back_moved}
use Rattle.matcher.proofs.Nodes.{kind_at}
use Rattle.matcher.proofs.Framed.{framed}
use Rattle.matcher.proofs.Places.{place_in}
use Rattle.matcher.proofs.ByKind.{by_empty, by_leaf, by_choice, by_sequence, by_star}
use Rattle.matcher.proofs.Marks.{apart, marked_same, marked_on, put_sound, put_marked}
use Rattle.matcher.proofs.Leaves.{says_yes, says_no}

pub leaf_value : (rs : List Row) (m : ℕ) (x : List Sight) → kind_at rs m ≡ 1 → (r : Bool) → Says (leaf (get_or rs m (row 0 0 0)).lo (get_or rs m (row 0 0 0)).hi) x r → (s : Tree) → Stands rs m s → Says s x r
leaf_value rs m x k r t = by_leaf rs m (λ s. Says s x r) k (λ lo hi h.
    let P : Row → Type 0 = λ y. Says (leaf y.lo y.hi) x r in
    subst P (stands_head rs m (leaf lo hi) h (row 0 0 0)) t)

pub not_lacking : (x : Cell) (n : ℕ) → CellOf n x → (x ≡ Has) ⊎ ((c : ℕ) × (x ≡ Code c)) → (n ≢ 255) × (n ≢ 0)
not_lacking x n h (inl e) = let k = subst (CellOf n) e h in (λ y. absurd (omega (arith, k, y)), λ y. absurd (omega (arith, k, y)))
not_lacking x n h (inr e) = let k = subst (CellOf n) e.1 h in (λ y. absurd (omega (arith, k.2, y)), λ y. absurd (omega (arith, k.1, y)))

-- both halves
module _ (f : Frame) (w : List Sight) (bs one : List ℕ) (s s' : Spot) (meet : s.end ≡ s'.start) where
  pub both_not : (r : Bool) → r ≡ false → ToldAt f w bs one s r → BothToldAt f w bs one s s' r
  both_not r e t = record { sound = t.sound; marked = t.marked; first = λ x. apart (sym x ∙ e); second = λ x. apart (sym x ∙ e); neither = λ _ p q h h' a b. (t.says p h).lacks e a }

  pub both_so : (two : List ℕ) (r r' : Bool) → r ≡ true → ToldAt f w bs one s r → ToldAt f w one two s' r' → BothToldAt f w bs two s s' r'
  both_so two r r' e t t' =
      let P : ℕ → Type 0 = λ k. Told (frame_rows f) w f.symbols one two s'.node k s'.end r' in
      let u = subst P (sym meet) t' in
      record {
        sound = u.sound;
        marked = marked_on bs one two t.marked u.marked;
        first = λ _ p h. (t.says p h).has e;
        second = λ x p h. (u.says p h).has x;
        neither = λ x p q h h' a b. (u.says q h').lacks x b;
      }

module _ (f : Frame) (w : List Sight) (s : Spot) (on : On f s) where
  open (names f s) use {rs, n, m, i, j}
  open on use {start as l, end as u}

  module _ (bs : List ℕ) (sound : Sound rs w n bs) where
    pub told_lacks : cell n bs m i j ≡ 255 → Told rs w n bs bs m i j false
    told_lacks e = record { sound = sound; marked = marked_same bs; says = λ x h. says_no x (part w i j) (sound.lacks m i j x h l u e) }

    pub told_has : (cell n bs m i j ≡ 255 → ⊥) → (cell n bs m i j ≡ 0 → ⊥) → Told rs w n bs bs m i j true
    told_has e g = record { sound = sound; marked = marked_same bs; says = λ x h. says_yes x (part w i j) (sound.has m i j x h l u g e) }

    pub told_empty : length w ≡ n → kind_at rs m ≡ 0 → Told rs w n bs bs m i j (eqb i j)
    told_empty long k = record {
      sound = sound;
      marked = marked_same bs;
      says = by_empty rs m (λ x. Says x (part w i j) (eqb i j)) k (λ h. record {
        has = λ e. (empty_parts w i j l (omega arith)).1 (eqb-true i j e);
        lacks = λ e a. eqb-false i j e ((empty_parts w i j l (omega arith)).0 a);
      });
    }

    pub told_leaf : kind_at rs m ≡ 1 → (r : Bool) → Says (leaf (get_or rs m (row 0 0 0)).lo (get_or rs m (row 0 0 0)).hi) (part w i j) r → Told rs w n bs bs m i j r
    told_leaf k r t = record { sound = sound; marked = marked_same bs; says = leaf_value rs m (part w i j) k r t }

  -- the mark of what was found
  module _ (bs one two : List ℕ) (r : Bool) (laid : Laid f one) (told : ToldAt f w bs one s r)
      (known : (spot_cell f one s ≡ 0 → ⊥) → two ≡ one) (found : spot_cell f one s ≡ 0 → r ≡ true → two ≡ set one (spot_place f s) 254) (lost : spot_cell f one s ≡ 0 → r ≡ false → two ≡ set one (spot_place f s) 255) where
    in-bench : place n m i j < length one
    in-bench = place_in (length rs) n one m i j laid on.node (omega arith) u

    abbrev Goal : List ℕ → Type 0
    Goal x = Told rs w n bs x m i j r

    with_mark : (v : ℕ) → cell n one m i j ≡ 0 → 254 ≤ v → ((v ≡ 255 → ⊥) → r ≡ true) → (v ≡ 255 → r ≡ false) → Goal (set one (place n m i j) v)
    with_mark v z k a b = record {
      sound = put_sound rs w n one m i j v l u in-bench told.sound (λ _ y x h. (told.says x h).has (a y)) (λ y x h. (told.says x h).lacks (b y));
      marked = marked_on bs one (set one (place n m i j) v) told.marked (put_marked rs w n one m i j v l u in-bench z k);
      says = told.says;
    }

    by_found : (b : Bool) → r ≡ b → cell n one m i j ≡ 0 → Goal two
    by_found true e z = subst Goal (sym (found z e)) (with_mark 254 z (omega arith) (λ _. e) (λ y. absurd (omega arith)))
    by_found false e z = subst Goal (sym (lost z e)) (with_mark 255 z (omega arith) (λ y. absurd (y refl)) (λ _. e))

    pub told_marked : Goal two
    told_marked = elim (ℕ_discrete (cell n one m i j) 0) [ yes z ↦ by_found r refl z | no z ↦ subst Goal (sym (known z)) told ]

  -- a choice, a sequence and a repetition
  module _ (long : length w ≡ n) where
    abbrev second : ℕ
    second = second_node f m

    second_at : (p q : Tree) → Stands rs (m + 1) p → Stands rs (m + 1 + size p) q → Stands rs second q
    second_at p q a b = let P : ℕ → Type 0 = λ k. Stands rs k q in subst P (sym (ap (λ k. m + 1 + k) ((framed f).sizes.sizes (m + 1) p (omega arith) a))) b

    pub either_first : (bs one : List ℕ) (r : Bool) → kind_at rs m ≡ 2 → r ≡ true → Told rs w n bs one (m + 1) i j r → Told rs w n bs one m i j r
    either_first bs one r k e t = record {
      sound = t.sound;
      marked = t.marked;
      says = by_choice rs m (λ s. Says s (part w i j) r) k (λ p q h. record {
        has = λ x. in_first ((t.says p (choice_first rs m p q h)).has x);
        lacks = λ x. apart (sym e ∙ x);
      });
    }

    pub either_second : (bs one two : List ℕ) (r r' : Bool) → kind_at rs m ≡ 2 → r ≡ false → Told rs w n bs one (m + 1) i j r → Told rs w n one two second i j r' → Told rs w n bs two m i j r'
    either_second bs one two r r' k e t t' = record {
      sound = t'.sound;
      marked = marked_on bs one two t.marked t'.marked;
      says = by_choice rs m (λ s. Says s (part w i j) r') k
          (λ p q h. let a = choice_first rs m p q h in let b = second_at p q a (choice_second rs m p q h) in record {
            has = λ x. in_second ((t'.says q b).has x);
            lacks = λ x y. elim ((choice_parts w p q i j).0 y) [ inl z ↦ (t.says p a).lacks e z | inr z ↦ (t'.says q b).lacks x z ];
          });
    }

    pub pair_found : (bs one two : List ℕ) (k : ℕ) (r : Bool) → kind_at rs m ≡ 3 → i ≤ k → k ≤ j → r ≡ true → NoSplit rs w n bs one m i j k → BothTold rs w n one two (m + 1) second i k j r → Told rs w n bs two m i j true
    pair_found bs one two k r x a b e f t = record {
      sound = t.sound;
      marked = marked_on bs one two f.marked t.marked;
      says = by_sequence rs m (λ s. Says s (part w i j) true) x
          (λ p q h. let c = sequence_first rs m p q h in let d = second_at p q c (sequence_second rs m p q h) in
          says_yes (sequence p q) (part w i j) (sequence_join w p q i j k a b (t.first e p c) (t.second e q d)));
    }

    pub pair_more : (bs one two : List ℕ) (k : ℕ) (r : Bool) → r ≡ false → NoSplit rs w n bs one m i j k → BothTold rs w n one two (m + 1) second i k j r → NoSplit rs w n bs two m i j (k + 1)
    pair_more bs one two k r e f t = record {
      sound = t.sound;
      marked = marked_on bs one two f.marked t.marked;
      none = λ p q h d a b x y. elim (ℕ_discrete d k) [
        | yes z ↦ (let c = sequence_first rs m p q h in
            t.neither e p q c (second_at p q c (sequence_second rs m p q h)) (front_moved w z p i x) (back_moved w z q j y))
        | no z ↦ f.none p q h d a (omega arith) x y
      ];
    }

    pub pair_start : (bs : List ℕ) (a b : ℕ) → Reach rs (m + 1) second i j a b → Sound rs w n bs → NoSplit rs w n bs bs m i j a
    pair_start bs a b r sound = record {
      sound = sound;
      marked = marked_same bs;
      none = λ p q h d x v c y.
          let o = r.only w (omega arith) p q (sequence_first rs m p q h) (second_at p q (sequence_first rs m p q h) (sequence_second rs m p q h)) d x (omega (arith, r.order, r.to)) c y in omega (arith, o.0);
    }

    pub pair_end : (bs one : List ℕ) (a b k : ℕ) → Reach rs (m + 1) second i j a b → b ≤ k → NoSplit rs w n bs one m i j k → NoSplit rs w n bs one m i j (j + 1)
    pair_end bs one a b k r l' f = record {
      sound = f.sound;
      marked = f.marked;
      none = λ p q h d x v c y.
          let o = r.only w (omega arith) p q (sequence_first rs m p q h) (second_at p q (sequence_first rs m p q h) (sequence_second rs m p q h)) d x (omega arith) c y in f.none p q h d x (omega (arith, o.1)) c y;
    }

    pub pair_none : (bs one : List ℕ) (k : ℕ) → kind_at rs m ≡ 3 → j < k → NoSplit rs w n bs one m i j k → Told rs w n bs one m i j false
    pair_none bs one k x v f = record {
      sound = f.sound;
      marked = f.marked;
      says = by_sequence rs m (λ s. Says s (part w i j) false) x
          (λ p q h. says_no (sequence p q) (part w i j) (λ y. let d = sequence_split w p q i j l (omega arith) y in f.none p q h d.0 d.1 (omega (arith, d.2)) d.3 d.4));
    }

  module _ (long : length w ≡ n) where
    pub rounds_nothing : (bs : List ℕ) → 3 < kind_at rs m → i ≡ j → Sound rs w n bs → Told rs w n bs bs m i j true
    rounds_nothing bs x e sound = record {
      sound = sound;
      marked = marked_same bs;
      says = by_star rs m (λ s. Says s (part w i j) true) x
          (λ p h. says_yes (star p) (part w i j) ((star_parts w p i j l (omega arith)).1 (inl e)));
    }

    pub rounds_found : (bs one two : List ℕ) (k : ℕ) (r : Bool) → 3 < kind_at rs m → i < k → k ≤ j → r ≡ true → NoRound rs w n bs one m i j k → BothTold rs w n one two (m + 1) m i k j r → Told rs w n bs two m i j true
    rounds_found bs one two k r x a b e f t = record {
      sound = t.sound;
      marked = marked_on bs one two f.marked t.marked;
      says = by_star rs m (λ s. Says s (part w i j) true) x
          (λ p h. says_yes (star p) (part w i j) (star_join w p i j k (omega arith) b (t.first e p (star_part rs m p h)) (t.second e (star p) h)));
    }

    pub rounds_more : (bs one two : List ℕ) (k : ℕ) (r : Bool) → r ≡ false → NoRound rs w n bs one m i j k → BothTold rs w n one two (m + 1) m i k j r → NoRound rs w n bs two m i j (k + 1)
    rounds_more bs one two k r e f t = record {
      sound = t.sound;
      marked = marked_on bs one two f.marked t.marked;
      none = λ p h d a b x y. elim (ℕ_discrete d k) [
        | yes z ↦ t.neither e p (star p) (star_part rs m p h) h (front_moved w z p i x) (back_moved w z (star p) j y)
        | no z ↦ f.none p h d a (omega arith) x y
      ];
    }

    pub rounds_end : (bs one : List ℕ) (a b k : ℕ) → Reach rs (m + 1) m i j a b → b ≤ k → NoRound rs w n bs one m i j k → NoRound rs w n bs one m i j (j + 1)
    rounds_end bs one a b k r l' f = record {
      sound = f.sound;
      marked = f.marked;
      none = λ p h d x v c y.
          let o = r.only w (omega arith) p (star p) (star_part rs m p h) h d (omega arith) (omega arith) c y in f.none p h d x (omega (arith, o.1)) c y;
    }

    pub rounds_none : (bs one : List ℕ) (k : ℕ) → 3 < kind_at rs m → (i ≡ j → ⊥) → j < k → NoRound rs w n bs one m i j k → Told rs w n bs one m i j false
    rounds_none bs one k x ne v f = record {
      sound = f.sound;
      marked = f.marked;
      says = by_star rs m (λ s. Says s (part w i j) false) x
          (λ p h. says_no (star p) (part w i j) (λ y. elim (star_split w p i j l (omega arith) y) [
            | inl z ↦ ne z
            | inr z ↦ f.none p h z.0 z.1 (omega (arith, z.2)) z.3 z.4
          ]));
    }
