-- Where the parts of a node stand among the rows, and which tree stands at a row of a kind.
use Rattle.std.proofs.Common.{◌≡◌, ℕ, ◌+◌, ◌<◌, ◌≤◌, cond, eqb, List, [], ◌∷◌, ◌++◌, length, get_or, drop, sym, refl, ap, ◌∙◌, subst, append_assoc, append-nil, add-zero, add_assoc, arith, length-append, length-drop}
use Rattle.std.proofs.lemmas.List.{drop-drop, drop_at, get_or-drop}
use Rattle.rules.specs.declared.row.Row.{Row}
use Rattle.rules.specs.declared.kind.Kind.{Kind}
use Rattle.rules.specs.declared.kind.Kind.TheVariants.{Empty, Leaf, Choice, Sequence, Star}
use Rattle.rules.specs.Kinds.{kind_number}
use Rattle.rules.specs.Trees.{Tree, empty, leaf, choice, sequence, star, row, rows, size}
use Rattle.rules.specs.Nodes.{Stands}
use Rattle.rules.proofs.RowFacts.{length_rows}

pub size_positive : (t : Tree) → 0 < size t
size_positive empty = omega arith
size_positive (leaf lo hi) = omega arith
size_positive (choice p q) = omega arith
size_positive (sequence p q) = omega arith
size_positive (star p) = omega arith

-- a tree stands at its own first row
pub stands_whole : (rs : List Row) (t : Tree) → rs ≡ rows t → Stands rs 0 t
stands_whole rs t e = record { rest = []; is = e ∙ sym (append-nil (rows t)) }

behind : (rs : List Row) (n k : ℕ) (u v : List Row) → drop n rs ≡ u ++ v → length u ≡ k → drop (n + k) rs ≡ v
behind rs n k u v e h = sym (drop-drop k n rs) ∙ (ap (drop k) e ∙ drop_at u v k h)

first_part : (rs : List Row) (n : ℕ) (x : Row) (p : Tree) (more : List Row) → drop n rs ≡ x ∷ (rows p ++ more) → Stands rs (n + 1) p
first_part rs n x p more e = record { rest = more; is = behind rs n 1 (x ∷ []) (rows p ++ more) e refl }

second_part : (rs : List Row) (n : ℕ) (x : Row) (p q : Tree) (more : List Row) → drop n rs ≡ x ∷ ((rows p ++ rows q) ++ more) → Stands rs (n + 1 + size p) q
second_part rs n x p q more e =
    record {
      rest = more;
      is =
          rw (add_assoc n 1 (size p)) (behind rs n (1 + size p) (x ∷ rows p) (rows q ++ more) (e ∙ ap (λ (r : List Row). x ∷ r) (append_assoc (rows p) (rows q) more)) (omega (arith, length_rows p)));
    }

-- the first row of a tree
abbrev pub head : Tree → Row
head empty = row 0 0 0
head (leaf lo hi) = row 1 lo hi
head (choice p q) = row 2 0 0
head (sequence p q) = row 3 0 0
head (star p) = row 4 0 0

head_of : (s : Tree) (rest : List Row) (d : Row) → get_or (rows s ++ rest) 0 d ≡ head s
head_of empty rest d = refl
head_of (leaf lo hi) rest d = refl
head_of (choice p q) rest d = refl
head_of (sequence p q) rest d = refl
head_of (star p) rest d = refl

-- the kind of a tree's first row
abbrev pub kind_of : Tree → Kind
kind_of empty = Empty
kind_of (leaf lo hi) = Leaf
kind_of (choice p q) = Choice
kind_of (sequence p q) = Sequence
kind_of (star p) = Star

head_kind : (s : Tree) → (head s).kind ≡ kind_number (kind_of s)
head_kind empty = refl
head_kind (leaf lo hi) = refl
head_kind (choice p q) = refl
head_kind (sequence p q) = refl
head_kind (star p) = refl

-- the kind of a number
abbrev numbered_kind : ℕ → Kind
numbered_kind n = cond (eqb n 0) Empty (cond (eqb n 1) Leaf (cond (eqb n 2) Choice (cond (eqb n 3) Sequence Star)))

kind_back : (k : Kind) → numbered_kind (kind_number k) ≡ k
kind_back Empty = refl
kind_back Leaf = refl
kind_back Choice = refl
kind_back Sequence = refl
kind_back Star = refl

-- kinds of one number are the same
same_kind : (j k : Kind) → kind_number j ≡ kind_number k → j ≡ k
same_kind j k e = sym (kind_back j) ∙ ap numbered_kind e ∙ kind_back k

kind_few : (k : Kind) → kind_number k ≤ 4
kind_few Empty = omega arith
kind_few Leaf = omega arith
kind_few Choice = omega arith
kind_few Sequence = omega arith
kind_few Star = omega arith

module _ (rs : List Row) (n : ℕ) where
  pub stands_within : (s : Tree) → Stands rs n s → n + size s ≤ length rs
  stands_within s h =
      let a : length (drop n rs) ≡ length (rows s) + length h.rest = ap length h.is ∙ length-append (rows s) h.rest in
      omega (arith, length-drop n rs, length_rows s, size_positive s)

  pub stands_inside : (s : Tree) → Stands rs n s → n < length rs
  stands_inside s h = omega (arith, stands_within s h, size_positive s)

  pub choice_first : (p q : Tree) → Stands rs n (choice p q) → Stands rs (n + 1) p
  choice_first p q h = first_part rs n (row 2 0 0) p (rows q ++ h.rest) (h.is ∙ ap (λ (r : List Row). row 2 0 0 ∷ r) (append_assoc (rows p) (rows q) h.rest))

  pub choice_second : (p q : Tree) → Stands rs n (choice p q) → Stands rs (n + 1 + size p) q
  choice_second p q h = second_part rs n (row 2 0 0) p q h.rest h.is

  pub sequence_first : (p q : Tree) → Stands rs n (sequence p q) → Stands rs (n + 1) p
  sequence_first p q h = first_part rs n (row 3 0 0) p (rows q ++ h.rest) (h.is ∙ ap (λ (r : List Row). row 3 0 0 ∷ r) (append_assoc (rows p) (rows q) h.rest))

  pub sequence_second : (p q : Tree) → Stands rs n (sequence p q) → Stands rs (n + 1 + size p) q
  sequence_second p q h = second_part rs n (row 3 0 0) p q h.rest h.is

  pub star_part : (p : Tree) → Stands rs n (star p) → Stands rs (n + 1) p
  star_part p h = first_part rs n (row 4 0 0) p h.rest h.is

  pub stands_head : (s : Tree) → Stands rs n s → (d : Row) → get_or rs n d ≡ head s
  stands_head s h d = ap (λ k. get_or rs k d) (sym (add-zero n)) ∙ (sym (get_or-drop n rs 0 d) ∙ (ap (λ (r : List Row). get_or r 0 d) h.is ∙ head_of s h.rest d))

  pub kind_is : (d : Row) (s : Tree) → Stands rs n s → (get_or rs n d).kind ≡ kind_number (kind_of s)
  kind_is d s h = ap (λ (r : Row). r.kind) (stands_head s h d) ∙ head_kind s

  -- P of a tree of the kind that stands here
  abbrev pub AtKind : (Tree → Type 0) → Kind → Type 0
  AtKind P Empty = Stands rs n empty → P empty
  AtKind P Leaf = (lo hi : ℕ) → Stands rs n (leaf lo hi) → P (leaf lo hi)
  AtKind P Choice = (p q : Tree) → Stands rs n (choice p q) → P (choice p q)
  AtKind P Sequence = (p q : Tree) → Stands rs n (sequence p q) → P (sequence p q)
  AtKind P Star = (p : Tree) → Stands rs n (star p) → P (star p)

  own_kind : (P : Tree → Type 0) (s : Tree) → AtKind P (kind_of s) → Stands rs n s → P s
  own_kind P empty f h = f h
  own_kind P (leaf lo hi) f h = f lo hi h
  own_kind P (choice p q) f h = f p q h
  own_kind P (sequence p q) f h = f p q h
  own_kind P (star p) f h = f p h

  -- what stands at a row of a kind is a tree of that kind
  pub at_kind : (d : Row) (k : Kind) → kind_number k ≡ (get_or rs n d).kind → (P : Tree → Type 0) → AtKind P k → (s : Tree) → Stands rs n s → P s
  at_kind d k e P f s h = own_kind P s (subst (λ (j : Kind). AtKind P j) (same_kind k (kind_of s) (e ∙ kind_is d s h)) f) h

  -- the row that a tree stands at has a kind's number
  pub kind_known : (d : Row) (s : Tree) → Stands rs n s → 4 < (get_or rs n d).kind → ⊥
  kind_known d s h lt = omega (arith, kind_is d s h, kind_few (kind_of s))
