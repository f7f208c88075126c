-- A run over a name exists exactly where the name is one of the rule's.
use Rattle.std.proofs.Common.{◌≡◌, ℕ, ◌+◌, ◌↔◌, List, [], ◌∷◌, ◌++◌, length, get_or, sym, refl, ap, ◌∙◌, subst, append_assoc, append-nil, arith, length-append}
use Rattle.std.proofs.lemmas.List.{get_or_at}
use Rattle.rules.specs.Trees.{Tree, empty, leaf, choice, sequence, star, leaves}
use Rattle.rules.specs.Languages.{Sight, In, in_empty, in_leaf, in_first, in_second, in_sequence, in_none, in_more}
use Rattle.positions.specs.Positions.{leaf_of, Holding, GoesOn, Runs, runs_none, runs_some, Spells, spells_empty, spells_leaf, spells_first, spells_second, spells_sequence, spells_none, spells_more}
use Rattle.positions.proofs.Local.{Rest, Whole, spells_whole, whole_spells}
use Rattle.positions.proofs.Meanings.{first_begins, begins_first, last_ends, ends_last, after_follows, follows_after}

-- the tree's leaves stand in ls from n on
abbrev Placed : List (ℕ × ℕ) → Tree → ℕ → Type 0
Placed ls empty n = Unit {0}
Placed ls (leaf lo hi) n = get_or ls n (0, 0) ≡ (lo, hi)
Placed ls (choice p q) n = Placed ls p n × Placed ls q (n + leaves p)
Placed ls (sequence p q) n = Placed ls p n × Placed ls q (n + leaves p)
Placed ls (star p) n = Placed ls p n

pub length_leaf_of : (t : Tree) → length (leaf_of t) ≡ leaves t
length_leaf_of empty = refl
length_leaf_of (leaf lo hi) = refl
length_leaf_of (choice p q) = let a = length_leaf_of p in let b = length_leaf_of q in length-append (leaf_of p) (leaf_of q) ∙ (omega arith)
length_leaf_of (sequence p q) = let a = length_leaf_of p in let b = length_leaf_of q in length-append (leaf_of p) (leaf_of q) ∙ (omega arith)
length_leaf_of (star p) = length_leaf_of p

long : (p : Tree) (cs : List (ℕ × ℕ)) (n : ℕ) → length cs ≡ n → length (cs ++ leaf_of p) ≡ n + leaves p
long p cs n e = let a = length_leaf_of p in length-append cs (leaf_of p) ∙ (omega arith)

placed_both : (p q : Tree) (cs ds : List (ℕ × ℕ)) (n : ℕ) → length cs ≡ n → Placed (cs ++ (leaf_of p ++ (leaf_of q ++ ds))) p n → Placed ((cs ++ leaf_of p) ++ (leaf_of q ++ ds)) q (n + leaves p)
    → Placed (cs ++ ((leaf_of p ++ leaf_of q) ++ ds)) p n × Placed (cs ++ ((leaf_of p ++ leaf_of q) ++ ds)) q (n + leaves p)
placed_both p q cs ds n e h k = (
  subst (λ l. Placed (cs ++ l) p n) (sym (append_assoc (leaf_of p) (leaf_of q) ds)) h,
  subst (λ l. Placed l q (n + leaves p)) (append_assoc cs (leaf_of p) (leaf_of q ++ ds) ∙ ap (λ l. cs ++ l) (sym (append_assoc (leaf_of p) (leaf_of q) ds))) k,
)

placed : (t : Tree) (cs ds : List (ℕ × ℕ)) (n : ℕ) → length cs ≡ n → Placed (cs ++ (leaf_of t ++ ds)) t n
placed empty cs ds n e = tt
placed (leaf lo hi) cs ds n e = get_or_at cs (lo, hi) ds (0, 0) n e
placed (choice p q) cs ds n e = placed_both p q cs ds n e (placed p cs (leaf_of q ++ ds) n e) (placed q (cs ++ leaf_of p) ds (n + leaves p) (long p cs n e))
placed (sequence p q) cs ds n e = placed_both p q cs ds n e (placed p cs (leaf_of q ++ ds) n e) (placed q (cs ++ leaf_of p) ds (n + leaves p) (long p cs n e))
placed (star p) cs ds n e = placed p cs ds n e

placed_whole : (t : Tree) → Placed (leaf_of t) t 0
placed_whole t = subst (λ l. Placed l t 0) (append-nil (leaf_of t)) (placed t [] [] 0 refl)

-- two stretches, leaf by leaf
holding_joined : (ls : List (ℕ × ℕ)) (xs ys : List ℕ) (u v : List Sight) → Holding ls xs u → Holding ls ys v → Holding ls (xs ++ ys) (u ++ v)
holding_joined ls [] ys [] v h k = k
holding_joined ls [] ys (s ∷ u) v h k = elim h [ ]
holding_joined ls (x ∷ xs) ys [] v h k = elim h [ ]
holding_joined ls (x ∷ xs) ys (s ∷ u) v h k = (h.0, holding_joined ls xs ys u v h.1 k)

record Halves (ls : List (ℕ × ℕ)) (xs ys : List ℕ) (w : List Sight) : Type 0 where
  front : List Sight
  back : List Sight
  whole : w ≡ front ++ back
  left : Holding ls xs front
  right : Holding ls ys back

halves : (ls : List (ℕ × ℕ)) (xs ys : List ℕ) (w : List Sight) → Holding ls (xs ++ ys) w → Halves ls xs ys w
halves ls [] ys w h = record { front = []; back = w; whole = refl; left = tt; right = h }
halves ls (x ∷ xs) ys [] h = elim h [ ]
halves ls (x ∷ xs) ys (s ∷ w) h = let c = halves ls xs ys w h.1 in record { front = s ∷ c.front; back = c.back; whole = ap (λ l. s ∷ l) c.whole; left = (h.0, c.left); right = c.right }

module _ (ls : List (ℕ × ℕ)) where
  -- a word of leaves that spells the name
  in_spelled : (t : Tree) (w : List Sight) (n : ℕ) → Placed ls t n → In t w → (xs : List ℕ) × Spells t n xs × Holding ls xs w
  in_spelled t w n pl in_empty = ([], spells_empty, tt)
  in_spelled t w n pl (in_leaf {s = s} h) = (n ∷ [], spells_leaf, (ap (λ (l : ℕ × ℕ). s l.0 l.1) pl ∙ h, tt))
  in_spelled t w n pl (in_first {p} {q} h) = let a = in_spelled p w n pl.0 h in (a.0, spells_first a.1, a.2)
  in_spelled t w n pl (in_second {p} {q} h) = let a = in_spelled q w (n + leaves p) pl.1 h in (a.0, spells_second a.1, a.2)
  in_spelled t w n pl (in_sequence {p} {q} {u} {v} h k) =
      let a = in_spelled p u n pl.0 h in
      let b = in_spelled q v (n + leaves p) pl.1 k in
      (a.0 ++ b.0, spells_sequence a.1 b.1, holding_joined ls a.0 b.0 u v a.2 b.2)
  in_spelled t w n pl in_none = ([], spells_none, tt)
  in_spelled t w n pl (in_more {p} {u} {v} h k) =
      let a = in_spelled p u n pl h in
      let b = in_spelled (star p) v n pl k in
      (a.0 ++ b.0, spells_more a.1 b.1, holding_joined ls a.0 b.0 u v a.2 b.2)

  spelled_in : (t : Tree) (n : ℕ) (xs : List ℕ) → Spells t n xs → Placed ls t n → (w : List Sight) → Holding ls xs w → In t w
  spelled_in t n xs spells_empty pl [] h = in_empty
  spelled_in t n xs spells_empty pl (s ∷ w) h = elim h [ ]
  spelled_in t n xs spells_leaf pl [] h = elim h [ ]
  spelled_in t n xs spells_leaf pl (s ∷ []) h = in_leaf (sym (ap (λ (l : ℕ × ℕ). s l.0 l.1) pl) ∙ h.0)
  spelled_in t n xs spells_leaf pl (s ∷ r ∷ w) h = elim h.1 [ ]
  spelled_in t n xs (spells_first {p} {q} k) pl w h = in_first (spelled_in p n xs k pl.0 w h)
  spelled_in t n xs (spells_second {p} {q} k) pl w h = in_second (spelled_in q (n + leaves p) xs k pl.1 w h)
  spelled_in t n xs (spells_sequence {p} {q} {u = u} {v = v} k l) pl w h =
      let c = halves ls u v w h in
      subst (In (sequence p q)) (sym c.whole) (in_sequence (spelled_in p n u k pl.0 c.front c.left) (spelled_in q (n + leaves p) v l pl.1 c.back c.right))
  spelled_in t n xs spells_none pl [] h = in_none
  spelled_in t n xs spells_none pl (s ∷ w) h = elim h [ ]
  spelled_in t n xs (spells_more {p} {u = u} {v = v} k l) pl w h =
      let c = halves ls u v w h in
      subst (In (star p)) (sym c.whole) (in_more (spelled_in p n u k pl c.front c.left) (spelled_in (star p) n v l pl c.back c.right))

-- the rest of a word, by the sets
goes_rest : (t : Tree) (x : ℕ) (xs : List ℕ) → GoesOn t x xs → Rest t 0 x xs
goes_rest t x [] h = last_ends t 0 x h
goes_rest t x (y ∷ xs) h = (after_follows t 0 x x y (omega arith) h.0, goes_rest t y xs h.1)

rest_goes : (t : Tree) (x : ℕ) (xs : List ℕ) → Rest t 0 x xs → GoesOn t x xs
rest_goes t x [] h = ends_last t 0 x h
rest_goes t x (y ∷ xs) h = (follows_after t 0 x x y (omega arith) h.0, rest_goes t y xs h.1)

whole_runs : (t : Tree) (xs : List ℕ) (w : List Sight) → Whole t 0 xs → Holding (leaf_of t) xs w → Runs t w
whole_runs t [] [] h k = runs_none h
whole_runs t [] (s ∷ w) h k = elim k [ ]
whole_runs t (x ∷ xs) w h k = runs_some x xs (begins_first t 0 x h.0) (rest_goes t x xs h.1) k

runs_in : (t : Tree) (w : List Sight) → Runs t w → In t w
runs_in t w (runs_none h) = spelled_in (leaf_of t) t 0 [] (whole_spells t 0 [] h) (placed_whole t) [] tt
runs_in t w (runs_some x xs h k l) = spelled_in (leaf_of t) t 0 (x ∷ xs) (whole_spells t 0 (x ∷ xs) (first_begins t 0 x h, goes_rest t x xs k)) (placed_whole t) w l

in_runs : (t : Tree) (w : List Sight) → In t w → Runs t w
in_runs t w h = let a = in_spelled (leaf_of t) t w 0 (placed_whole t) h in whole_runs t a.0 w (spells_whole t 0 a.0 a.1) a.2

pub runs_exactly : (t : Tree) (w : List Sight) → Runs t w ↔ In t w
runs_exactly t w = (runs_in t w, in_runs t w)
