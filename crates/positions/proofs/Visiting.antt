-- A visit of a node, by its kind: what its parts' visits tell and write makes what it tells and writes.
use Rattle.std.proofs.Common.{◌≡◌, ℕ, ◌+◌, ◌<◌, ◌≤◌, true, List, ◌++◌, length, get_or, replicate, sym, refl, ap, ◌∙◌, subst, ap₂, append_assoc, arith, length-append}
use Rattle.std.proofs.lemmas.List.{replicate-append-replicate}
use Rattle.rules.specs.declared.row.Row.{Row}
use Rattle.rules.specs.declared.kind.Kind.{Kind}
use Rattle.rules.specs.declared.kind.Kind.TheVariants.{Empty, Leaf, Choice, Sequence, Star}
use Rattle.rules.specs.Kinds.{kind_number}
use Rattle.rules.specs.Nodes.{Stands}
use Rattle.rules.specs.Trees.{Tree, empty, choice, sequence, star, size, leaves}
use Rattle.rules.proofs.Nodes.{stands_inside, AtKind, at_kind, choice_first, choice_second, sequence_first, sequence_second, star_part}
use Rattle.positions.specs.declared.sets.visit.Part.{Part}
use Rattle.positions.specs.Positions.{nullable, first_set, last_set, followed, follow_sets}
use Rattle.positions.specs.Visits.{Placed, Visit, Visited, told, empty_part, leaf_part, either, both}
use Rattle.positions.proofs.Linking.{Lies, followed_within}
use Rattle.positions.proofs.Local.{ends_within}
use Rattle.positions.proofs.Meanings.{last_ends, length_follow_sets}

last_lies : (t : Tree) (x : ℕ) → Lies (last_set t x) x (leaves t)
last_lies t x y e = ends_within t x y (last_ends t x y e)

-- what is told, with other numbers for the next node and leaf
abbrev moved : Tree → ℕ → ℕ → ℕ → Part
moved s x node next = record { nullable = nullable s; first = first_set s x; last = last_set s x; next_node = node; next_leaf = next }

told_at : (s : Tree) (n x node next : ℕ) → node ≡ n + size s → next ≡ x + leaves s → moved s x node next ≡ told s n x
told_at s n x node next e f = ap₂ (moved s x) e f

-- what one part's visit wrote, and then its sibling's
pair_writes : (p q : Tree) (x : ℕ) (before mid after a c : List ℕ) → length a ≡ x
    → ((a c : List ℕ) → length a ≡ x → before ≡ a ++ (replicate (leaves p) 0 ++ c) → mid ≡ a ++ (follow_sets p x ++ c))
    → ((a c : List ℕ) → length a ≡ x + leaves p → mid ≡ a ++ (replicate (leaves q) 0 ++ c) → after ≡ a ++ (follow_sets q (x + leaves p) ++ c))
    → before ≡ a ++ (replicate (leaves p + leaves q) 0 ++ c)
    → after ≡ a ++ (follow_sets p x ++ (follow_sets q (x + leaves p) ++ c))
pair_writes p q x before mid after a c la one two e =
    let fp = follow_sets p x in
    let fq = follow_sets q (x + leaves p) in
    let zp = replicate (leaves p) 0 in
    let zq = replicate (leaves q) 0 in
    let z : replicate (leaves p + leaves q) 0 ++ c ≡ zp ++ (zq ++ c) = ap (λ l. l ++ c) (sym (replicate-append-replicate (leaves p) (leaves q) 0)) ∙ append_assoc zp zq c in
    let m : mid ≡ a ++ (fp ++ (zq ++ c)) = one a (zq ++ c) la (e ∙ ap (λ l. a ++ l) z) in
    let l : length (a ++ fp) ≡ x + leaves p = length-append a fp ∙ ap₂ ◌+◌ la (length_follow_sets p x) in
    two (a ++ fp) c l (m ∙ sym (append_assoc a fp (zq ++ c))) ∙ append_assoc a fp (fq ++ c)

-- What is left where some kinds are not there: a part, two parts, and those of a sequence.
pub some_part : (k : Kind) → (k ≡ Empty → ⊥) → (k ≡ Leaf → ⊥) → 1 < kind_number k
some_part Empty a b = absurd (a refl)
some_part Leaf a b = absurd (b refl)
some_part Choice a b = omega arith
some_part Sequence a b = omega arith
some_part Star a b = omega arith

pub two_parts : (k : Kind) → (k ≡ Star → ⊥) → kind_number k < 4
two_parts Empty a = omega arith
two_parts Leaf a = omega arith
two_parts Choice a = omega arith
two_parts Sequence a = omega arith
two_parts Star a = absurd (a refl)

pub only_sequence : (k : Kind) → 1 < kind_number k → kind_number k < 4 → (k ≡ Choice → ⊥) → k ≡ Sequence
only_sequence Empty lo hi a = absurd (omega arith)
only_sequence Leaf lo hi a = absurd (omega arith)
only_sequence Choice lo hi a = absurd (a refl)
only_sequence Sequence lo hi a = refl
only_sequence Star lo hi a = absurd (omega arith)

module _ (rs : List Row) (n x : ℕ) (d : Row) where
  -- the kind of the node's row
  abbrev Is : Kind → Type 0
  Is k = kind_number k ≡ (get_or rs n d).kind

  pub is_kind : (j k : Kind) → j ≡ k → Is j → Is k
  is_kind j k e h = ap kind_number (sym e) ∙ h

  module _ (before : List ℕ) where
    pub visited_empty : (r : Part) → Is Empty → r ≡ empty_part (n + 1) x → Visited rs n x before r before
    visited_empty r k f = at_kind rs n d Empty k (λ s. Visit s n x before r before) (λ h. record { tells = f ∙ told_at empty n x (n + 1) x refl (omega arith); writes = λ a c l e. e })

    pub visited_leaf : (r : Part) → Is Leaf → r ≡ leaf_part (n + 1) x → Visited rs n x before r before
    visited_leaf r k f = at_kind rs n d Leaf k (λ s. Visit s n x before r before) (λ lo hi h. record { tells = f; writes = λ a c l e. e })

    module _ (one : Part) (mid : List ℕ) (v : Visited rs (n + 1) x before one mid) where
      star_case : (p : Tree) (after : List ℕ) → Stands rs n (star p) → after ≡ followed one.last one.first 0 mid
          → Visit (star p) n x before (record { nullable = true; first = one.first; last = one.last; next_node = one.next_node; next_leaf = one.next_leaf }) after
      star_case p after h f =
          let w = v p (star_part rs n p h) in
          let fp = follow_sets p x in
          record {
            tells =
                ap {B = Part} (λ (o : Part). record { nullable = true; first = o.first; last = o.last; next_node = o.next_node; next_leaf = o.next_leaf }) w.tells
                ∙ told_at (star p) n x (n + 1 + size p) (x + leaves p) (omega arith) refl;
            writes = λ a c l e.
                f ∙ ap (λ (o : Part). followed o.last o.first 0 mid) w.tells
                ∙ ap (followed (last_set p x) (first_set p x) 0) (w.writes a c l e)
                ∙ followed_within (last_set p x) (first_set p x) x (leaves p) a fp c l (length_follow_sets p x) (last_lies p x);
          }

      pub visited_star : (after : List ℕ) → Is Star → after ≡ followed one.last one.first 0 mid
          → Visited rs n x before (record { nullable = true; first = one.first; last = one.last; next_node = one.next_node; next_leaf = one.next_leaf }) after
      visited_star after k f = at_kind rs n d Star k (λ s. Visit s n x before _ after) (λ p h. star_case p after h f)

      module _ (two : Part) (last : List ℕ) (u : Visited rs one.next_node one.next_leaf mid two last) where
        -- the second part's visit, by the numbers that the first told
        second : (p q : Tree) → one ≡ told p (n + 1) x → Stands rs (n + 1 + size p) q → Visit q (n + 1 + size p) (x + leaves p) mid two last
        second p q e h =
            let P : Part → Type 0 = λ o. Visited rs o.next_node o.next_leaf mid two last in
            subst P e u q h

        choice_case : (p q : Tree) (r : Part) → Stands rs n (choice p q) → r ≡ either one two → Visit (choice p q) n x before r last
        choice_case p q r h f =
            let w = v p (choice_first rs n p q h) in
            let z = second p q w.tells (choice_second rs n p q h) in
            record {
              tells = f ∙ ap₂ either w.tells z.tells ∙ told_at (choice p q) n x (n + 1 + size p + size q) (x + leaves p + leaves q) (omega arith) (omega arith);
              writes = λ a c l e.
                  pair_writes p q x before mid last a c l w.writes z.writes e
                  ∙ ap (λ g. a ++ g) (sym (append_assoc (follow_sets p x) (follow_sets q (x + leaves p)) c));
            }

        pub visited_choice : (r : Part) → Is Choice → r ≡ either one two → Visited rs n x before r last
        visited_choice r k f = at_kind rs n d Choice k (λ s. Visit s n x before r last) (λ p q h. choice_case p q r h f)

        sequence_case : (p q : Tree) (r : Part) (after : List ℕ) → Stands rs n (sequence p q) → r ≡ both one two → after ≡ followed one.last two.first 0 last → Visit (sequence p q) n x before r after
        sequence_case p q r after h f g =
            let w = v p (sequence_first rs n p q h) in
            let z = second p q w.tells (sequence_second rs n p q h) in
            let fp = follow_sets p x in
            let fq = follow_sets q (x + leaves p) in
            let lasts = last_set p x in
            let firsts = first_set q (x + leaves p) in
            record {
              tells = f ∙ ap₂ both w.tells z.tells ∙ told_at (sequence p q) n x (n + 1 + size p + size q) (x + leaves p + leaves q) (omega arith) (omega arith);
              writes = λ a c l e.
                  g ∙ ap₂ (λ (o t : Part). followed o.last t.first 0 last) w.tells z.tells
                  ∙ ap (followed lasts firsts 0) (pair_writes p q x before mid last a c l w.writes z.writes e)
                  ∙ followed_within lasts firsts x (leaves p) a fp (fq ++ c) l (length_follow_sets p x) (last_lies p x)
                  ∙ ap (λ y. a ++ y) (sym (append_assoc (followed lasts firsts x fp) fq c));
            }

        pub visited_sequence : (r : Part) (after : List ℕ) → Is Sequence → r ≡ both one two → after ≡ followed one.last two.first 0 last → Visited rs n x before r after
        visited_sequence r after k f g = at_kind rs n d Sequence k (λ s. Visit s n x before r after) (λ p q h. sequence_case p q r after h f g)

  -- R where the leaves of a tree, numbered from x on, are below 32
  abbrev Roomed : Type 0 → Tree → Type 0
  Roomed R s = x + leaves s ≤ 32 → R

  -- Where the parts are placed.
  pub leaf_room : Is Leaf → Placed rs n x → x < 32
  leaf_room k h = at_kind rs n d Leaf k (Roomed (x < 32)) (λ lo hi h l. omega arith) h.tree h.stands h.room

  -- a part is placed at a later node
  pub record Next (node next : ℕ) : Type 0 where
    pub placed : Placed rs node next
    pub later : n < node
    pub within : n < length rs

  pub placed_one : (k : Kind) → 1 < kind_number k → Is k → Placed rs n x → Next (n + 1) x
  placed_one k lt e h = record { placed = at_kind rs n d k e (Roomed (Placed rs (n + 1) x)) (one k lt) h.tree h.stands h.room; later = omega arith; within = stands_inside rs n h.tree h.stands }
    where
      one : (k : Kind) → 1 < kind_number k → AtKind rs n (Roomed (Placed rs (n + 1) x)) k
      one Empty lt = absurd (omega arith)
      one Leaf lt = absurd (omega arith)
      one Choice lt = λ p q h l. record { tree = p; stands = choice_first rs n p q h; room = omega arith }
      one Sequence lt = λ p q h l. record { tree = p; stands = sequence_first rs n p q h; room = omega arith }
      one Star lt = λ p h l. record { tree = p; stands = star_part rs n p h; room = omega arith }

  -- the second part is placed where the first part's visit told
  pub placed_two : (k : Kind) → 1 < kind_number k → kind_number k < 4 → Is k → (before mid : List ℕ) (one : Part) → Visited rs (n + 1) x before one mid → Placed rs n x → Next one.next_node one.next_leaf
  placed_two k lo hi e before mid one v h = at_kind rs n d k e (Roomed (Next one.next_node one.next_leaf)) (two k lo hi) h.tree h.stands h.room
    where
      at_told : (p q : Tree) → one ≡ told p (n + 1) x → Stands rs (n + 1 + size p) q → x + (leaves p + leaves q) ≤ 32 → Next one.next_node one.next_leaf
      at_told p q e g l =
          let P : Part → Type 0 = λ o. Next o.next_node o.next_leaf in
          subst P (sym e) (record { placed = record { tree = q; stands = g; room = omega arith }; later = omega arith; within = stands_inside rs n h.tree h.stands })

      two : (k : Kind) → 1 < kind_number k → kind_number k < 4 → AtKind rs n (Roomed (Next one.next_node one.next_leaf)) k
      two Empty lo hi = absurd (omega arith)
      two Leaf lo hi = absurd (omega arith)
      two Choice lo hi = λ p q h l. at_told p q (v p (choice_first rs n p q h)).tells (choice_second rs n p q h) l
      two Sequence lo hi = λ p q h l. at_told p q (v p (sequence_first rs n p q h)).tells (sequence_second rs n p q h) l
      two Star lo hi = absurd (omega arith)
