-- Trees on a stack, and the rows that they stand for.
use Rattle.std.proofs.Common.{ℕ, ◌≡◌, ◌+◌, ◌<◌, length, get_or, take, drop, List, [], ◌∷◌, ◌++◌, map, reverse, Option, Some, None, MatchOption, sym, refl, ap, ◌∙◌, append_assoc, append-nil, arith, subst}
use Rattle.std.specs.Prelude.{IfSome, sum_by}
use Rattle.std.specs.Option.{IsSomeAnd, option_to_list}
use Rattle.std.proofs.lemmas.List.Sums.{sum_by-append}
use Rattle.cases.specs.Sizes.{size}
use Rattle.std.proofs.lemmas.List.{map-append, reverse-append, reverse-reverse, length-reverse, length-map, take-append-drop, at_drop_more}
use Rattle.rules.specs.declared.row.Row.{Row}
use Rattle.rules.specs.Trees.{empty, leaf, choice, sequence, star, row, rows}
use Rattle.rules.specs.Trees as rule
use Rattle.rules.proofs.Nodes.{head}
use Rattle.cases.specs.Names.{ruled}
use Rattle.cases.specs.Parts.{parts, stacked}
use Rattle.cases.specs.declared.tree.Tree.{Tree}

-- one more tree on the stack
pub stacked_more : (ts : List Tree) (t : Tree) → stacked (ts ++ t ∷ []) ≡ ruled t ∷ stacked ts
stacked_more ts t = ap reverse (map-append ruled ts (t ∷ [])) ∙ reverse-append (map ruled ts) (ruled t ∷ [])

-- the rows of trees, one after the other
abbrev pub forest : List rule.Tree → List Row
forest [] = []
forest (t ∷ ts) = rows t ++ forest ts

pub forest-append : (ts us : List rule.Tree) → forest (ts ++ us) ≡ forest ts ++ forest us
forest-append [] us = refl
forest-append (t ∷ ts) us = ap (λ r. rows t ++ r) (forest-append ts us) ∙ sym (append_assoc (rows t) (forest ts) (forest us))

-- a tree's first row, and the rows of its parts
pub rows_split : (t : rule.Tree) → rows t ≡ head t ∷ forest (parts t)
rows_split empty = refl
rows_split (leaf lo hi) = refl
rows_split (choice p q) = ap (λ r. row 2 0 0 ∷ (rows p ++ r)) (sym (append-nil (rows q)))
rows_split (sequence p q) = ap (λ r. row 3 0 0 ∷ (rows p ++ r)) (sym (append-nil (rows q)))
rows_split (star p) = ap (λ r. row 4 0 0 ∷ r) (sym (append-nil (rows p)))

-- the first tree of some, taken apart
pub forest_split : (t : rule.Tree) (ts : List rule.Tree) → forest (t ∷ ts) ≡ head t ∷ forest (parts t ++ ts)
forest_split t ts = ap (λ r. r ++ forest ts) (rows_split t) ∙ ap (λ r. head t ∷ r) (sym (forest-append (parts t) ts))

-- what comes after some of the rows of trees is the rows of trees
pub forest_after : (before after : List Row) (ts : List rule.Tree) → before ++ after ≡ forest ts → (us : List rule.Tree) × (after ≡ forest us)
forest_after [] after ts e = (ts, e)
forest_after (r ∷ before) after [] e = absurd (cc e)
forest_after (r ∷ before) after (t ∷ ts) e =
    let f : r ∷ (before ++ after) ≡ head t ∷ forest (parts t ++ ts) = e ∙ forest_split t ts in
    forest_after before after (parts t ++ ts) (cc f)

first_kind : (t : rule.Tree) (r : Row) (below : List Row) → rows t ≡ r ∷ below → (head t).kind ≡ r.kind
first_kind t r below e = let same : head t ≡ r = cc (rows_split t, e) in ap (λ (x : Row). x.kind) same

abbrev Two : (rule.Tree → rule.Tree → rule.Tree) → rule.Tree → Type 0
Two f t = (p : rule.Tree) × (q : rule.Tree) × (t ≡ f p q)

-- a tree whose first row is a choice's or a sequence's
pub a_choice : (t : rule.Tree) (r : Row) (below : List Row) → rows t ≡ r ∷ below → 2 ≡ r.kind → Two choice t
a_choice empty r below e k = absurd (omega (arith, first_kind empty r below e, k))
a_choice (leaf lo hi) r below e k = absurd (omega (arith, first_kind (leaf lo hi) r below e, k))
a_choice (choice p q) r below e k = (p, q, refl)
a_choice (sequence p q) r below e k = absurd (omega (arith, first_kind (sequence p q) r below e, k))
a_choice (star p) r below e k = absurd (omega (arith, first_kind (star p) r below e, k))

pub a_sequence : (t : rule.Tree) (r : Row) (below : List Row) → rows t ≡ r ∷ below → 3 ≡ r.kind → Two sequence t
a_sequence empty r below e k = absurd (omega (arith, first_kind empty r below e, k))
a_sequence (leaf lo hi) r below e k = absurd (omega (arith, first_kind (leaf lo hi) r below e, k))
a_sequence (choice p q) r below e k = absurd (omega (arith, first_kind (choice p q) r below e, k))
a_sequence (sequence p q) r below e k = (p, q, refl)
a_sequence (star p) r below e k = absurd (omega (arith, first_kind (star p) r below e, k))

-- what holds of the value that `map` made
pub of_mapped : {A B : Type 0} {L : A → B → Type 0} {P : A → Type 0} {Q : B → Type 0} (o : Option A) (r : Option B) → MatchOption o (r ≡ None) (λ x. IsSomeAnd r (λ y. L x y)) → MatchOption o ⊥ P → ((x : A) (y : B) → L x y → P x → Q y) → MatchOption r ⊥ Q
of_mapped None r m g h = absurd g
of_mapped (Some x) None m g h = absurd m
of_mapped (Some x) (Some y) m g h = h x y m g

-- the trees that stand for rows, and what a row in front of them has grown to
abbrev pub Stood : List Row → List Tree → Type 0
Stood below ts = (us : List rule.Tree) → below ≡ forest us → stacked ts ≡ us

abbrev Grows : Row → List Tree → (rule.Tree → List rule.Tree → Type 0) → Type 0
Grows r ts P = (t : rule.Tree) (below : List Row) (rest : List rule.Tree) → rows t ≡ r ∷ below → stacked ts ≡ parts t ++ rest → P t rest

grow_at : (r : Row) (below : List Row) (ts : List Tree) (P : rule.Tree → List rule.Tree → Type 0) → Stood below ts → Grows r ts P → (t : rule.Tree) (us : List rule.Tree) → r ∷ below ≡ forest (t ∷ us) → P t us
grow_at r below ts P old grown t us e =
    let f : r ∷ below ≡ head t ∷ forest (parts t ++ us) = e ∙ forest_split t us in
    let a : head t ≡ r = cc f in
    let b : below ≡ forest (parts t ++ us) = cc f in
    grown t (forest (parts t)) us (rows_split t ∙ ap (λ z. z ∷ forest (parts t)) a) (old (parts t ++ us) b)

pub grow : (r : Row) (below : List Row) (ts news : List Tree) (x : Tree) → Stood below ts → Grows r ts (λ t rest. (ruled x ≡ t) × (stacked news ≡ rest)) → Stood (r ∷ below) (news ++ x ∷ [])
grow r below ts news x old grown [] e = absurd (cc e)
grow r below ts news x old grown (t ∷ us) e =
    let g = grow_at r below ts (λ s rest. (ruled x ≡ s) × (stacked news ≡ rest)) old grown t us e in
    stacked_more news x ∙ cc (g.0, g.1)

never_among : (r : Row) (below : List Row) (ts : List Tree) → Stood below ts → Grows r ts (λ t rest. ⊥) → (us : List rule.Tree) → r ∷ below ≡ forest us → ⊥
never_among r below ts old grown [] e = absurd (cc e)
never_among r below ts old grown (t ∷ us) e = grow_at r below ts (λ s rest. ⊥) old grown t us e

pub never : (t : rule.Tree) (rs before : List Row) (r : Row) (below : List Row) (ts : List Tree) → rs ≡ rows t → rs ≡ before ++ (r ∷ below) → Stood below ts → Grows r ts (λ t rest. ⊥) → ⊥
never t rs before r below ts o e old grown =
    let f = forest_after before (r ∷ below) (t ∷ []) (sym e ∙ o ∙ sym (append-nil (rows t))) in
    never_among r below ts old grown f.0 f.1

-- rows taken from behind: those before, this one, and those already taken
pub turned : (rs ys : List Row) (n : ℕ) (r : Row) → ys ≡ take n (reverse rs) → n < length (reverse rs) → r ≡ get_or (reverse rs) n r → (before : List Row) × (rs ≡ before ++ (r ∷ reverse ys))
turned rs ys n r e lt f =
    let all = reverse rs in
    let rest : drop n all ≡ r ∷ drop (n + 1) all = at_drop_more (λ (l : List Row). l) all n r lt ∙ ap (λ z. z ∷ drop (n + 1) all) (sym f) in
    let halves : all ≡ ys ++ (r ∷ drop (n + 1) all) = sym (take-append-drop n all) ∙ ap (λ z. z ++ drop n all) (sym e) ∙ ap (λ z. ys ++ z) rest in
    let back : rs ≡ reverse (r ∷ drop (n + 1) all) ++ reverse ys = sym (reverse-reverse rs) ∙ ap reverse halves ∙ reverse-append ys (r ∷ drop (n + 1) all) in (
      reverse (drop (n + 1) all),
      back ∙ ap (λ z. z ++ reverse ys) (reverse-append (r ∷ []) (drop (n + 1) all)) ∙ append_assoc (reverse (drop (n + 1) all)) (r ∷ []) (reverse ys),
    )

-- one more row taken
pub turned_more : (ys : List Row) (r : Row) → reverse (ys ++ r ∷ []) ≡ r ∷ reverse ys
turned_more ys r = reverse-append ys (r ∷ [])

none_stacked : (ts : List Tree) → stacked ts ≡ [] → ts ≡ []
none_stacked [] e = refl
none_stacked (t ∷ ts) e = absurd (omega (arith, ap length e, length-reverse (map ruled (t ∷ ts))))

-- the one tree of the rows of a tree
last_tree : (t : rule.Tree) (rs : List Row) (ts news : List Tree) (x : Tree) → rs ≡ rows t → Stood rs ts → ts ≡ news ++ x ∷ [] → (ruled x ≡ t) × (news ≡ [])
last_tree t rs ts news x o stood e =
    let f : ruled x ∷ stacked news ≡ t ∷ [] = sym (stacked_more news x) ∙ ap stacked (sym e) ∙ stood (t ∷ []) (o ∙ sym (append-nil (rows t))) in
    let n : stacked news ≡ [] = cc f in
    (cc f, none_stacked news n)

-- the last tree of a stack that stands for the rows of a tree, and what is left of the stack
pub popped : (M : Type 0) (N : Tree → Type 0) (t : rule.Tree) (rs : List Row) (ts news : List Tree) (r : Option Tree) (n : ℕ) → rs ≡ rows t → Stood rs ts → ts ≡ news ++ option_to_list r → n ≡ length ts → MatchOption r ((n ≡ 0) × M) N
    → MatchOption r ⊥ (λ x. ruled x ≡ t) × (length news ≡ 0)
popped M N t rs ts news None n o stood e l m =
    let f : stacked ts ≡ t ∷ [] = stood (t ∷ []) (o ∙ sym (append-nil (rows t))) in
    absurd (omega (arith, ap length f, length-reverse (map ruled ts), length-map ts ruled, m.0))
popped M N t rs ts news (Some x) n o stood e l m = let f = last_tree t rs ts news x o stood e in (f.0, ap length f.1)

nothing_stands : (us : List rule.Tree) → [] ≡ forest us → [] ≡ us
nothing_stands [] e = refl
nothing_stands (t ∷ us) e = absurd (cc (e, forest_split t us))

pub stood_none : (ts : List Tree) → ts ≡ [] → Stood [] ts
stood_none ts e us f = ap stacked e ∙ nothing_stands us f

pub at_some : {A : Type 0} (o : Option A) (x : A) (P : A → Type 0) → o ≡ Some x → MatchOption o ⊥ P → P x
at_some o x P e h = subst (λ (z : Option _). MatchOption z ⊥ P) e h

pub at_none : {A : Type 0} (o : Option A) (P : A → Type 0) → o ≡ None → MatchOption o ⊥ P → ⊥
at_none o P e h = subst (λ (z : Option _). MatchOption z ⊥ P) e h

pub if_some : {A : Type 0} (o : Option A) (x : A) (P : A → Type 0) → o ≡ Some x → IfSome o P → P x
if_some o x P e h = subst (λ (z : Option _). IfSome z P) e h

-- one more tree, which has taken its parts
pub sizes_more : (ts news : List Tree) (x : Tree) (n m : ℕ) → ts ≡ news ++ x ∷ [] → size x + sum_by size news ≡ 1 + n → m ≡ n + 1 → sum_by size ts ≡ m
sizes_more ts news x n m e s f = omega (arith, ap (sum_by size) e, sum_by-append size news (x ∷ []), s)
