use Rattle.std.proofs.Common.{Result, Ok, Err, ◌<◌, ◌≡◌, ℕ, ◌↔◌, Bool, true, false, List, length, get_or, sym, ap, ◌∙◌, subst, inl, inr, arith}
use Rattle.std.proofs.lemmas.Bool.Decides.{nat_tests}
use Rattle.rules.specs.declared.row.Row.{Row}
use Rattle.rules.specs.declared.kind.Kind.{Kind}
use Rattle.rules.specs.declared.kind.Kind.TheVariants.{Empty, Leaf, Choice, Sequence, Star}
use Rattle.std.specs.Result.{result_unwrap_or}
use Rattle.rules.specs.declared.denial.Denial.{Denial}
use Rattle.rules.specs.Kinds.{kind_number, KindOf}
use Rattle.rules.specs.Trees.{Tree, leaf, choice, star, Of, row}
use Rattle.rules.proofs.Nodes.{AtKind, at_kind, kind_known, stands_whole}
use Rattle.cases.specs.Names.{LeafHas, IsName, IsNameBefore}
use Rattle.cases.proofs.Names.{empty_names, leaf_row_names, choice_splits, sequence_splits, star_splits, told}
use Rattle.cases.proofs.Rows.{rows_below}
use Rattle.cases.proofs.membership.+membership.Goals as goal

-- the rows' tree has the word, if the test says so
abbrev Tells : List Row → Bool → List ℕ → Tree → Type 0
Tells rs b word t = Of rs t → (b ≡ true) ↔ IsName t word

known : (n : ℕ) (r : Result Kind Denial) (k : Kind) → KindOf n r → k ≡ result_unwrap_or r Sequence → (4 < n → ⊥) → kind_number k ≡ n
known n (Ok j) k h e f = ap kind_number e ∙ h
known n (Err d) k h e f = absurd (f h.1)

-- by the kind of the first row, which a tree's has
by_kind : (rs : List Row) (r : Result Kind Denial) (k : Kind) → KindOf (get_or rs 0 (row 0 0 0)).kind r → k ≡ result_unwrap_or r Sequence → (b : Bool) (word : List ℕ) → AtKind rs 0 (Tells rs b word) k → (t : Tree) → Tells rs b word t
by_kind rs r k h e b word f t o =
    let s = stands_whole rs t o in
    at_kind rs 0 (row 0 0 0) k (known _ r k h e (λ lt. kind_known rs 0 (row 0 0 0) t s lt)) (Tells rs b word) f t s o

pub member-returns-in-Empty : goal.member-returns-in-Empty
member-returns-in-Empty t c =
    let n = empty_names c.args.word.now in
    by_kind c.args.rows.now c.try_from.result Empty c.try_from.ensures c.in-Empty.ensures c.is_empty.result c.args.word.now
    (λ s o. rw c.is_empty.ensures ((λ h. n.0 (grind (arith, nat_tests, h))), λ h. let l = n.1 h in grind (arith, nat_tests, l)))

leaf_of : (rs : List Row) (lo hi : ℕ) (word : List ℕ) → Of rs (leaf lo hi) → LeafHas (get_or rs 0 (row 0 0 0)) word ↔ IsName (leaf lo hi) word
leaf_of rs lo hi word o =
    let P : Row → Type 0 = λ r. LeafHas r word ↔ IsName (leaf lo hi) word in
    subst P (sym (ap (λ (l : List Row). get_or l 0 (row 0 0 0)) o)) (leaf_row_names lo hi word)

pub member-returns-in-Leaf : goal.member-returns-in-Leaf
member-returns-in-Leaf t c =
    by_kind c.args.rows.now c.try_from.result Leaf c.try_from.ensures c.in-Leaf.ensures c.leaf_has.result c.args.word.now
    (λ lo hi s o. told c.leaf_has.ensures (leaf_of c.args.rows.now lo hi c.args.word.now o))

-- two tests of the two parts of a choice
either : (a b : Bool) (p q : Tree) (word : List ℕ) → (a ≡ true) ↔ IsName p word → (b ≡ true) ↔ IsName q word → a ≡ false → (b ≡ true) ↔ IsName (choice p q) word
either a b p q word f g n =
    let s = choice_splits p q word in
    ((λ h. s.0 (inr (g.0 h))), λ h. elim (s.1 h) [ inl x ↦ absurd (grind (arith, f.1 x, n)) | inr y ↦ g.1 y ])

first_does : (a : Bool) (p q : Tree) (word : List ℕ) → (a ≡ true) ↔ IsName p word → a ≡ true → (a ≡ true) ↔ IsName (choice p q) word
first_does a p q word f y = ((λ h. (choice_splits p q word).0 (inl (f.0 h))), λ h. y)

pub member-returns-then-member : goal.member-returns-then-member
member-returns-then-member t c =
    by_kind c.args.rows.now c.try_from.result Choice c.try_from.ensures c.in-Choice.ensures c.member.result c.args.word.now
    (λ p q s o. let e = c.two_parts.ensures.trees p q (rows_below c.args.rows.now _ _ o) in first_does c.member.result p q c.args.word.now (c.member.ensures p e.0) c.if-member.true)

pub member-returns-else-member : goal.member-returns-else-member
member-returns-else-member t c =
    by_kind c.args.rows.now c.try_from.result Choice c.try_from.ensures c.in-Choice.ensures c.member-else-member.result c.args.word.now
    (λ p q s o. let e = c.two_parts.ensures.trees p q (rows_below c.args.rows.now _ _ o) in either c.member.result c.member-else-member.result p q c.args.word.now (c.member.ensures p e.0) (c.member-else-member.ensures q e.1) c.if-member.false)

pub member-returns-then-is_empty : goal.member-returns-then-is_empty
member-returns-then-is_empty t c =
    by_kind c.args.rows.now c.try_from.result Star c.try_from.ensures c.in-Star.ensures c.is_empty-in-Star.result c.args.word.now
    (λ p s o. ((λ h. (star_splits p c.args.word.now).0 (inl (grind (arith, nat_tests, h, c.is_empty-in-Star.ensures)))), λ h. c.if-is_empty.true))

rounds : (b : Bool) (p : Tree) (word : List ℕ) → (b ≡ true) ↔ IsNameBefore p (star p) word 1 → (length word ≡ 0 → ⊥) → (b ≡ true) ↔ IsName (star p) word
rounds b p word f n =
    let s = star_splits p word in
    ((λ h. s.0 (inr (f.0 h))), λ h. elim (s.1 h) [ inl e ↦ absurd (n e) | inr m ↦ f.1 m ])

pub member-returns-else-is_empty : goal.member-returns-else-is_empty
member-returns-else-is_empty t c =
    by_kind c.args.rows.now c.try_from.result Star c.try_from.ensures c.in-Star.ensures c.member_before-else-is_empty.result c.args.word.now
    (λ p s o. rounds c.member_before-else-is_empty.result p c.args.word.now (c.member_before-else-is_empty.ensures p (star p) (rows_below c.args.rows.now _ _ o) o) (λ e. grind (arith, nat_tests, e, c.if-is_empty.false, c.is_empty-in-Star.ensures)))

pub member-returns-in-Sequence : goal.member-returns-in-Sequence
member-returns-in-Sequence t c =
    by_kind c.args.rows.now c.try_from.result Sequence c.try_from.ensures c.in-Sequence.ensures c.member_before.result c.args.word.now
    (λ p q s o. let e = c.two_parts-in-Sequence.ensures.trees p q (rows_below c.args.rows.now _ _ o) in told (c.member_before.ensures p q e.0 e.1) (sequence_splits p q c.args.word.now))
