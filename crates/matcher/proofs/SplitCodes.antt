-- The best split of a sequence, split by split.
use Rattle.std.proofs.Common.{◌≡◌, ℕ, ◌+◌, ◌-◌, ◌<◌, ◌≤◌, ◌⊎◌, List, ◌∷◌, ◌++◌, get_or, sym, refl, ap, ◌∙◌, subst, inl, inr, arith}
use native.Mathlib.Decide.{ℕ_discrete}
use Rattle.rules.specs.Trees.{Tree, sequence, size, rows, Of, Bound}
use Rattle.rules.specs.Languages.{Sight, In, part}
use Rattle.rules.specs.Readings.{Reading, Reads, reads_sequence, stretch}
use Rattle.rules.proofs.Parts.{sequence_split}
use Rattle.rules.proofs.ReadingFacts.{ReadsCases, reads_cases, reads_ordered, reads_in}
use Rattle.policies.specs.Orders.{Order, Decided, Replaced}
use Rattle.matcher.specs.declared.frame.Frame.{Frame}
use Rattle.matcher.specs.declared.frame.Spot.{Spot}
use Rattle.rules.specs.Nodes.{Stands}
use Rattle.matcher.specs.Frames.{second_node, On}
use Rattle.matcher.specs.Unpacking.{cell, unpacked}
use Rattle.matcher.specs.Benches.{Grown, AtLeast, Held}
use Rattle.matcher.specs.States.{Reach, Keeps, Coded, BothCoded, Ready, BestBelow}
use Rattle.matcher.proofs.AtSpot.{names}
use Rattle.matcher.proofs.Halves.{front_moved, back_moved}
use Rattle.matcher.proofs.Framed.{framed}
use Rattle.rules.proofs.Nodes.{sequence_first, sequence_second}
use Rattle.matcher.proofs.Nodes.{Found, found, kind_at}
use Rattle.matcher.proofs.ByKind.{by_sequence}
use Rattle.matcher.proofs.Bounds.{bound_stands, few_nodes, sequence_left, sequence_right}
use Rattle.matcher.proofs.Lifts.{trans, same_left, same_right, lift_left, lift_right}
use Rattle.matcher.proofs.Firm.{part_fixed}

module _ (above : Order) (decided : Decided above) (replaced : Replaced above) (t : Tree) (few : size t ≤ 64) (w : List Sight) (m i j : ℕ) (p q : Tree) (bound : Bound t m (sequence p q)) (n : ℕ) where
  abbrev a : ℕ
  a = m + 1

  abbrev b : ℕ
  b = m + 1 + size p

  abbrev xp : List ℕ → ℕ → Reading
  xp bs k = unpacked n bs p a (stretch i k) (cell n bs a i k)

  abbrev xq : List ℕ → ℕ → Reading
  xq bs k = unpacked n bs q b (stretch k j) (cell n bs b k j)

  abbrev code : List ℕ → ℕ → Reading
  code bs r = unpacked n bs (sequence p q) m (stretch i j) r

  code_is : (bs : List ℕ) (k : ℕ) → i ≤ k → k ≤ j → code bs (k - i + 1) ≡ stretch i j ∷ (xp bs k ++ xq bs k)
  code_is bs k x y = ap (λ z. stretch i j ∷ (xp bs z ++ xq bs z)) (omega arith)

  module _ (bs : List ℕ) (k : ℕ) (x : i ≤ k) (y : k ≤ j)
      (f : (0 < cell n bs a i k) × (cell n bs a i k < 254) × Held above t w n bs p a i k (cell n bs a i k))
      (g : (0 < cell n bs b k j) × (cell n bs b k j < 254) × Held above t w n bs q b k j (cell n bs b k j)) where
    pub reads_code : Reads w (sequence p q) i j (code bs (k - i + 1))
    reads_code = let P : Reading → Type 0 = λ z. Reads w (sequence p q) i j z in subst P (sym (code_is bs k x y)) (reads_sequence f.2.best.reads g.2.best.reads)

    pub fixed_code : (bs' : List ℕ) → Grown bs bs' → code bs (k - i + 1) ≡ code bs' (k - i + 1)
    fixed_code bs' h =
        code_is bs k x y
        ∙ (ap (λ (z : Reading). stretch i j ∷ (z ++ xq bs k)) (part_fixed above t w n bs bs' p a i k h f.0 f.1 f.2)
        ∙ (ap (λ (z : Reading). stretch i j ∷ (xp bs' k ++ z)) (part_fixed above t w n bs bs' q b k j h g.0 g.1 g.2)
        ∙ sym (code_is bs' k x y)))

    pub over_code : (u v : Reading) → Reads w p i k u → Reads w q k j v → AtLeast above (rows t) m (code bs (k - i + 1)) (stretch i j ∷ (u ++ v))
    over_code u v ru rv =
        same_left above decided replaced t few w m (stretch i j ∷ (xp bs k ++ xq bs k)) (code bs (k - i + 1)) (stretch i j ∷ (u ++ v)) (sym (code_is bs k x y))
        (trans above decided replaced t few w m (sequence p q) bound i j (stretch i j ∷ (xp bs k ++ xq bs k)) (stretch i j ∷ (u ++ xq bs k)) (stretch i j ∷ (u ++ v))
        (reads_sequence f.2.best.reads g.2.best.reads) (reads_sequence ru g.2.best.reads) (reads_sequence ru rv)
        (lift_left above decided replaced t few w m i j p q bound k (xp bs k) u (xq bs k) f.2.best.reads ru g.2.best.reads (f.2.best.outranks u ru))
        (lift_right above decided replaced t few w m i j p q bound k u (xq bs k) v ru g.2.best.reads rv (g.2.best.outranks v rv)))

-- the splits of a sequence whose codes are all in the bench
module _ (above : Order) (decided : Decided above) (replaced : Replaced above) (f : Frame) (w : List Sight) (s : Spot) (on : On f s) where
  open (names f s) use {rs, n, m, i, j}
  open on use {start as l, end as u}
  open (framed f) use {sizes as sized, few}

  abbrev second : ℕ
  second = second_node f m

  node_tree : Found rs m
  node_tree = found rs (framed f).tree m on.node

  second_at : (p q : Tree) → Stands rs m (sequence p q) → Stands rs second q
  second_at p q h = let P : ℕ → Type 0 = λ k. Stands rs (m + 1 + k) q in subst P (sym (sized.sizes (m + 1) p (omega arith) (sequence_first rs m p q h))) (sequence_second rs m p q h)

  module _ (bs : List ℕ) (ready : Ready above rs w n bs m second i j) where
    abbrev Below : ℕ → ℕ → Type 0
    Below k r = BestBelow above rs w n bs m second i j k r

    abbrev Code : Tree → Tree → ℕ → Reading
    Code p q r = unpacked n bs (sequence p q) m (stretch i j) r

    -- the reading of a split
    module _ (t : Tree) (e : Of rs t) (p q : Tree) (bound : Bound t m (sequence p q)) where
      size_is : get_or f.sizes (m + 1) 0 ≡ size p
      size_is = sized.sizes (m + 1) p (omega arith) (sequence_first rs m p q (bound_stands rs t (sequence p q) m e bound))

      module _ (k : ℕ) (x : i ≤ k) (y : k ≤ j) (c : BothCoded n bs (m + 1) second i k j) where
        held_first : (0 < cell n bs (m + 1) i k) × (cell n bs (m + 1) i k < 254) × Held above t w n bs p (m + 1) i k (cell n bs (m + 1) i k)
        held_first = (c.first_some, c.first_small, ready.right.solved.at t e (m + 1) i k p (sequence_left t p q m bound) x (omega arith) c.first_some c.first_small)

        held_second : (0 < cell n bs (m + 1 + size p) k j) × (cell n bs (m + 1 + size p) k j < 254) × Held above t w n bs q (m + 1 + size p) k j (cell n bs (m + 1 + size p) k j)
        held_second =
            let P : ℕ → Type 0 = λ z. 0 < cell n bs (m + 1 + z) k j in
            let Q : ℕ → Type 0 = λ z. cell n bs (m + 1 + z) k j < 254 in
            let f = subst P size_is c.second_some in
            let g = subst Q size_is c.second_small in
            (f, g, ready.right.solved.at t e (m + 1 + size p) k j q (sequence_right t p q m bound) y u f g)

        split_reads : Reads w (sequence p q) i j (Code p q (k - i + 1))
        split_reads = reads_code above decided replaced t (few_nodes rs t e few) w m i j p q bound n bs k x y held_first held_second

        split_fixed : (bs' : List ℕ) → Grown bs bs' → Code p q (k - i + 1) ≡ unpacked n bs' (sequence p q) m (stretch i j) (k - i + 1)
        split_fixed = fixed_code above decided replaced t (few_nodes rs t e few) w m i j p q bound n bs k x y held_first held_second

        split_over : (v z : Reading) → Reads w p i k v → Reads w q k j z → AtLeast above (rows t) m (Code p q (k - i + 1)) (stretch i j ∷ (v ++ z))
        split_over = over_code above decided replaced t (few_nodes rs t e few) w m i j p q bound n bs k x y held_first held_second

      best_reads : (k r : ℕ) → Below k r → (r ≡ 0 → ⊥) → Reads w (sequence p q) i j (Code p q r)
      best_reads k r s z = let d = s.split z in let P : ℕ → Type 0 = λ x. Reads w (sequence p q) i j (Code p q x) in subst P (sym d.3) (split_reads d.0 d.1 d.2 d.4)

    -- where the splits lie
    module _ (a b : ℕ) (r : Reach rs (m + 1) second i j a b) where
      inside : (p q : Tree) → Stands rs m (sequence p q) → (d : ℕ) → i ≤ d → d ≤ j → In p (part w i d) → In q (part w d j) → (a ≤ d) × (d < b)
      inside p q h d x y c z = r.only w (omega (arith, ready.long)) p q (sequence_first rs m p q h) (second_at p q h) d x y c z

      read_inside : (t : Tree) → Of rs t → (p q : Tree) → Bound t m (sequence p q) → (d : ℕ) (y z : Reading) → i ≤ d → Reads w p i d y → Reads w q d j z → (a ≤ d) × (d < b)
      read_inside t e p q c d y z x ry rz = inside p q (bound_stands rs t (sequence p q) m e c) d x (reads_ordered rz) (reads_in ry) (reads_in rz)

      pub below_none : Below a 0
      below_none = record {
        split = λ z. absurd (z refl);
        some = λ p q h d x y c z. let o = inside p q h d x (omega (arith, r.order, r.to)) c z in absurd (omega (arith, o.0));
        outranks = λ t e p q c d y z x v ry rz. let o = read_inside t e p q c d y z x ry rz in absurd (omega (arith, o.0));
      }

      below_end : (k v : ℕ) → b ≤ k → Below k v → Below (j + 1) v
      below_end k v g s = record {
        split = s.split;
        some = λ p q h d x y c z. let o = inside p q h d x (omega arith) c z in s.some p q h d x (omega (arith, o.1)) c z;
        outranks = λ t e p q c d y z x f ry rz. let o = read_inside t e p q c d y z x ry rz in s.outranks t e p q c d y z x (omega (arith, o.1)) ry rz;
      }

    -- a split that has not both codes has not both halves
    pub below_skip : (k r : ℕ) → k ≤ j → (BothCoded n bs (m + 1) second i k j → ⊥) → Below k r → Below (k + 1) r
    below_skip k r y f s = record {
      split = s.split;
      some = λ p q h d x v c z. elim (ℕ_discrete d k) [ yes e ↦ absurd (lost p q h d x e c z) | no e ↦ s.some p q h d x (omega arith) c z ];
      outranks = λ t e p q b d v z x o rv rz. elim (ℕ_discrete d k) [
        | yes c ↦ absurd (lost p q (bound_stands rs t (sequence p q) m e b) d x c (reads_in rv) (reads_in rz))
        | no c ↦ s.outranks t e p q b d v z x (omega arith) rv rz
      ];
    }
      where
        lost : (p q : Tree) → Stands rs m (sequence p q) → (d : ℕ) → i ≤ d → d ≡ k → In p (part w i d) → In q (part w d j) → ⊥
        lost p q h d x e c z = f (ready.coded p q h k (omega arith) y (front_moved w e p i c) (back_moved w e q j z))

    module _ (k r v : ℕ) (x : i ≤ k) (y : k ≤ j) (coded : BothCoded n bs (m + 1) second i k j) (below : Below k r)
        (either : (v ≡ r) ⊎ (v ≡ k - i + 1)) (none : r ≡ 0 → v ≡ k - i + 1) (keeps : Keeps above rs n bs m i j r (k - i + 1) v) where
      some : v ≡ 0 → ⊥
      some e = elim either [ inl c ↦ (let d = none (sym c ∙ e) in omega arith) | inr c ↦ omega arith ]

      split : (h : ℕ) × (i ≤ h) × (h ≤ j) × (v ≡ h - i + 1) × BothCoded n bs (m + 1) second i h j
      split = elim either [
        | inl c ↦ (let d = below.split (λ z. some (c ∙ z)) in (d.0, d.1, d.2, c ∙ d.3, d.4))
        | inr c ↦ (k, x, y, c, coded)
      ]

      module _ (t : Tree) (e : Of rs t) (p q : Tree) (bound : Bound t m (sequence p q)) where
        reads_new : Reads w (sequence p q) i j (Code p q (k - i + 1))
        reads_new = split_reads t e p q bound k x y coded

        reads_v : Reads w (sequence p q) i j (Code p q v)
        reads_v = let P : ℕ → Type 0 = λ z. Reads w (sequence p q) i j (Code p q z) in
            subst P (sym split.3) (split_reads t e p q bound split.0 split.1 split.2 split.4)

        over_new : AtLeast above (rows t) m (Code p q v) (Code p q (k - i + 1))
        over_new = elim (ℕ_discrete r 0) [ yes z ↦ inl (ap (λ c. Code p q c) (none z)) | no z ↦ (keeps t (sequence p q) w e bound z (best_reads t e p q bound k r below z) reads_new).new ]

        over : (d : ℕ) (y' z' : Reading) → i ≤ d → d < k + 1 → Reads w p i d y' → Reads w q d j z' → AtLeast above (rows t) m (Code p q v) (stretch i j ∷ (y' ++ z'))
        over d y' z' c o ry rz = elim (ℕ_discrete d k) [
          | yes h ↦ (let P : ℕ → Type 0 = λ z. Reads w p i z y' in let Q : ℕ → Type 0 = λ z. Reads w q z j z' in
              trans above decided replaced t (few_nodes rs t e few) w m (sequence p q) bound i j (Code p q v) (Code p q (k - i + 1)) (stretch i j ∷ (y' ++ z')) reads_v reads_new (reads_sequence ry rz) over_new
              (split_over t e p q bound k x y coded y' z' (subst P h ry) (subst Q h rz)))
          | no h ↦ (let z = below.some p q (bound_stands rs t (sequence p q) m e bound) d c (omega arith) (reads_in ry) (reads_in rz) in
              trans above decided replaced t (few_nodes rs t e few) w m (sequence p q) bound i j (Code p q v) (Code p q r) (stretch i j ∷ (y' ++ z')) reads_v (best_reads t e p q bound k r below z) (reads_sequence ry rz)
              (keeps t (sequence p q) w e bound z (best_reads t e p q bound k r below z) reads_new).old (below.outranks t e p q bound d y' z' c (omega arith) ry rz))
        ]

      pub below_kept : Below (k + 1) v
      below_kept = record { split = λ _. split; some = λ p q h d c o z' y'. some; outranks = over }

    pub below_done : (a b : ℕ) → Reach rs (m + 1) second i j a b → (k r : ℕ) → b ≤ k → kind_at rs m ≡ 3 → Below k r → Coded above rs w n bs m i j r
    below_done a b reach k r g kind s = let o = node_tree in record { some = omega (arith, positive o.tree o.stands); small = small o.tree o.stands; held = held }
      where
        all : Below (j + 1) r
        all = below_end a b reach k r g s

        filled : (p q : Tree) → Stands rs m (sequence p q) → r ≡ 0 → ⊥
        filled p q h = let d = sequence_split w p q i j l (omega (arith, ready.long)) (ready.present (sequence p q) h) in all.some p q h d.0 d.1 (omega (arith, d.2)) d.3 d.4

        positive : (s : Tree) → Stands rs m s → 0 < r
        positive = by_sequence rs m (λ _. 0 < r) kind (λ p q h. let z : r ≡ 0 → ⊥ = filled p q h in omega arith)

        small : (s : Tree) → Stands rs m s → r < 254
        small = by_sequence rs m (λ _. r < 254) kind (λ p q h. let d = all.split (filled p q h) in omega (arith, d.2, d.3))

        held_pair : (t : Tree) → Of rs t → (p q : Tree) → Bound t m (sequence p q) → Held above t w n bs (sequence p q) m i j r
        held_pair t e p q b =
            let z = filled p q (bound_stands rs t (sequence p q) m e b) in
            let d = all.split z in
            let P : ℕ → Type 0 = λ x. (bs' : List ℕ) → Grown bs bs' → Code p q x ≡ unpacked n bs' (sequence p q) m (stretch i j) x in
            record {
              best = record {
                reads = best_reads t e p q b (j + 1) r all z;
                outranks = λ y ry.
                    let o : ReadsCases w (sequence p q) i j y = reads_cases ry in
                    same_right above decided replaced t (few_nodes rs t e few) w m (Code p q r) (stretch i j ∷ (o.1 ++ o.2)) y (sym o.5) (all.outranks t e p q b o.0 o.1 o.2 (reads_ordered o.3) (omega (arith, reads_ordered o.4)) o.3 o.4);
              };
              fixed = subst P (sym d.3) (split_fixed t e p q b d.0 d.1 d.2 d.4);
            }

        held : (t : Tree) → Of rs t → (s : Tree) → Bound t m s → Held above t w n bs s m i j r
        held t e s b = by_sequence rs m (λ s. Bound t m s → Held above t w n bs s m i j r) kind (λ p q _ d. held_pair t e p q d) s (bound_stands rs t s m e b) b
