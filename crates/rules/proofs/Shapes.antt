-- Rows meet no check exactly when they are those of a tree whose leaves are all admitted.
use Rattle.std.proofs.Common.{◌≡◌, ℕ, zero, suc, ◌+◌, ◌-◌, ◌≤◌, Bool, true, false, cond, ◌&&◌, eqb, ltb, List, [], ◌∷◌, ◌++◌, length, Some, None, Option, sym, refl, ap, ◌∙◌, subst, append_assoc, append-nil, arith}
use Rattle.std.proofs.lemmas.Bool.{and_parts, cond-true, cond-false, eqb-true, eqb-false, ltb-false, ne_eqb, le-ltb}
use Rattle.rules.specs.declared.row.Row.{Row}
use Rattle.rules.specs.Trees.{Tree, empty, leaf, choice, sequence, star, row, rows, Of}
use Rattle.rules.specs.Checks.{open_after, row_fits, row_met, first_met, met, AllAdmitted}
use Rattle.rules.specs.Theorems.{CheckedExactly}
use Rattle.rules.proofs.OneTree.{one_tree}
use Rattle.rules.proofs.CheckFacts.{rows_met}

not_none : (k : ℕ) → Some k ≡ None → ⊥
not_none k e = let z : ◌≡◌ {A = ℕ} 0 1 = cc in omega arith

pub both_none : (o m : Option ℕ) → first_met o m ≡ None → (o ≡ None) × (m ≡ None)
both_none None m e = (refl, e)
both_none (Some k) m e = absurd (not_none k e)

-- what a row that meets no check is
record Passed (admitted : ℕ → ℕ → Bool) (n : ℕ) (r : Row) : Type 0 where
  live : n ≡ 0 → ⊥
  known : r.kind ≤ 4
  fits : row_fits admitted r ≡ true

module _ (admitted : ℕ → ℕ → Bool) (n : ℕ) (r : Row) where
  passed_fits : (n ≡ 0 → ⊥) → r.kind ≤ 4 → (b : Bool) → row_fits admitted r ≡ b → cond {A = Option ℕ} b None (Some 4) ≡ None → Passed admitted n r
  passed_fits l k true f e = record { live = l; known = k; fits = f }
  passed_fits l k false f e = absurd (not_none 4 e)

  passed_kind : (n ≡ 0 → ⊥) → (b : Bool) → ltb 4 r.kind ≡ b → cond {A = Option ℕ} b (Some 3) (cond (row_fits admitted r) None (Some 4)) ≡ None → Passed admitted n r
  passed_kind l true f e = absurd (not_none 3 e)
  passed_kind l false f e = passed_fits l (ltb-false 4 r.kind f) (row_fits admitted r) refl e

  passed_live : (b : Bool) → eqb n 0 ≡ b → cond {A = Option ℕ} b (Some 5) (cond (ltb 4 r.kind) (Some 3) (cond (row_fits admitted r) None (Some 4))) ≡ None → Passed admitted n r
  passed_live true f e = absurd (not_none 5 e)
  passed_live false f e = passed_kind (eqb-false n 0 f) (ltb 4 r.kind) refl e

  passed : row_met admitted n r ≡ None → Passed admitted n r
  passed e = passed_live (eqb n 0) refl e

  passes : Passed admitted n r → row_met admitted n r ≡ None
  passes p = cond-false _ _ _ (ne_eqb n 0 p.live) ∙ cond-false _ _ _ (le-ltb 4 r.kind p.known) ∙ cond-true _ _ _ p.fits

-- trees one after the other: their rows, and that their leaves are all admitted
abbrev all_rows : List Tree → List Row
all_rows [] = []
all_rows (t ∷ ts) = rows t ++ all_rows ts

abbrev Admit : (ℕ → ℕ → Bool) → List Tree → Type 0
Admit admitted [] = Unit {0}
Admit admitted (t ∷ ts) = AllAdmitted admitted t × Admit admitted ts

abbrev Stands : (ℕ → ℕ → Bool) → ℕ → List Row → Type 0
Stands admitted n rs = (ts : List Tree) × (length ts ≡ n) × (rs ≡ all_rows ts) × Admit admitted ts

-- the row of a node that is no leaf has no numbers
bare : (k lo hi : ℕ) → (eqb lo 0 && eqb hi 0) ≡ true → row k lo hi ≡ row k 0 0
bare k lo hi e =
    let z = and_parts (eqb lo 0) (eqb hi 0) e in
    ap (λ (x : ℕ). row k x hi) (eqb-true lo 0 z.0) ∙ ap (λ (x : ℕ). row k 0 x) (eqb-true hi 0 z.1)

one_more : {admitted : ℕ → ℕ → Bool} {n m : ℕ} {r : Row} {rs : List Row} (t : Tree) → r ∷ [] ≡ rows t → AllAdmitted admitted t → m ≡ n - 1 → (n ≡ 0 → ⊥) → Stands admitted m rs → Stands admitted n (r ∷ rs)
one_more {rs = rs} t e a m live (ts, l, f, g) =
    (t ∷ ts, omega arith, ap (λ (x : List Row). x ++ rs) e ∙ ap (λ (x : List Row). rows t ++ x) f, (a, g))

two_more : {admitted : ℕ → ℕ → Bool} {n m : ℕ} {r : Row} {rs : List Row} (k : Tree → Tree → Tree) → ((p q : Tree) → r ∷ (rows p ++ rows q) ≡ rows (k p q)) → ((p q : Tree) → AllAdmitted admitted p → AllAdmitted admitted q → AllAdmitted admitted (k p q)) → m ≡ n - 1 + 2 → (n ≡ 0 → ⊥) → (ts : List Tree) → length ts ≡ m → rs ≡ all_rows ts → Admit admitted ts → Stands admitted n (r ∷ rs)
two_more k e a m live [] l f g = absurd (omega arith)
two_more k e a m live (p ∷ []) l f g = absurd (omega arith)
two_more {r = r} {rs = rs} k e a m live (p ∷ q ∷ ts) l f g =
    (k p q ∷ ts, omega arith, ap (λ (x : List Row). r ∷ x) (f ∙ sym (append_assoc (rows p) (rows q) (all_rows ts))) ∙ ap (λ (x : List Row). x ++ all_rows ts) (e p q), (a p q g.0 g.1.0, g.1.1))

star_more : {admitted : ℕ → ℕ → Bool} {n m : ℕ} {rs : List Row} → m ≡ n - 1 + 1 → (n ≡ 0 → ⊥) → (ts : List Tree) → length ts ≡ m → rs ≡ all_rows ts → Admit admitted ts → Stands admitted n (row 4 0 0 ∷ rs)
star_more m live [] l f g = absurd (omega arith)
star_more m live (p ∷ ts) l f g = (star p ∷ ts, omega arith, ap (λ (x : List Row). row 4 0 0 ∷ x) f, g)

with_row : {admitted : ℕ → ℕ → Bool} {n : ℕ} {r s : Row} {rs : List Row} → r ≡ s → Stands admitted n (s ∷ rs) → Stands admitted n (r ∷ rs)
with_row {admitted} {n} {rs = rs} e h = subst (λ (x : Row). Stands admitted n (x ∷ rs)) (sym e) h

-- one row in front, by its kind
in_front : (admitted : ℕ → ℕ → Bool) (n k lo hi : ℕ) (rs : List Row) → Passed admitted n (row k lo hi) → Stands admitted (open_after n k) rs → Stands admitted n (row k lo hi ∷ rs)
in_front admitted n zero lo hi rs p h = with_row (bare 0 lo hi p.fits) (one_more empty refl tt (omega arith) p.live h)
in_front admitted n (suc zero) lo hi rs p h = one_more (leaf lo hi) refl p.fits (omega arith) p.live h
in_front admitted n (suc (suc zero)) lo hi rs p (ts, l, f, g) = with_row (bare 2 lo hi p.fits) (two_more choice (λ a b. refl) (λ a b x y. (x, y)) refl p.live ts l f g)
in_front admitted n (suc (suc (suc zero))) lo hi rs p (ts, l, f, g) = with_row (bare 3 lo hi p.fits) (two_more sequence (λ a b. refl) (λ a b x y. (x, y)) refl p.live ts l f g)
in_front admitted n (suc (suc (suc (suc zero)))) lo hi rs p (ts, l, f, g) = with_row (bare 4 lo hi p.fits) (star_more refl p.live ts l f g)
in_front admitted n (suc (suc (suc (suc (suc k))))) lo hi rs p h = absurd (let l = p.known in omega arith)

stands : (admitted : ℕ → ℕ → Bool) (n : ℕ) (rs : List Row) → met admitted n rs ≡ None → Stands admitted n rs
stands admitted n [] e = none_left (eqb n 0) refl e
  where
    none_left : (b : Bool) → eqb n 0 ≡ b → cond {A = Option ℕ} b None (Some 6) ≡ None → Stands admitted n []
    none_left true f e = ([], sym (eqb-true n 0 f), refl, tt)
    none_left false f e = absurd (not_none 6 e)
stands admitted n (r ∷ rs) e =
    let z = both_none (row_met admitted n r) (met admitted (open_after n r.kind) rs) e in
    in_front admitted n r.kind r.lo r.hi rs (passed admitted n r z.0) (stands admitted (open_after n r.kind) rs z.1)

lone : {admitted : ℕ → ℕ → Bool} {rs : List Row} → Stands admitted 1 rs → (t : Tree) × Of rs t × AllAdmitted admitted t
lone ([], l, f, g) = absurd (omega arith)
lone (t ∷ [], l, f, g) = (t, f ∙ append-nil (rows t), g.0)
lone (t ∷ u ∷ ts, l, f, g) = absurd (omega arith)

-- a tree's rows in front of others
row_on : (admitted : ℕ → ℕ → Bool) (n m : ℕ) (r : Row) (rs : List Row) → Passed admitted n r → open_after n r.kind ≡ m → met admitted n (r ∷ rs) ≡ met admitted m rs
row_on admitted n m r rs p e = ap (λ (o : Option ℕ). first_met o (met admitted (open_after n r.kind) rs)) (passes admitted n r p) ∙ ap (λ (k : ℕ). met admitted k rs) e

tree_on : (admitted : ℕ → ℕ → Bool) (t : Tree) → AllAdmitted admitted t → (n : ℕ) (rs : List Row) → met admitted (n + 1) (rows t ++ rs) ≡ met admitted n rs
tree_on admitted empty a n rs = row_on admitted (n + 1) n (row 0 0 0) rs (record { live = omega arith; known = omega arith; fits = refl }) (omega arith)
tree_on admitted (leaf lo hi) a n rs = row_on admitted (n + 1) n (row 1 lo hi) rs (record { live = omega arith; known = omega arith; fits = a }) (omega arith)
tree_on admitted (choice p q) a n rs =
    row_on admitted (n + 1) (n + 1 + 1) (row 2 0 0) ((rows p ++ rows q) ++ rs) (record { live = omega arith; known = omega arith; fits = refl }) (omega arith)
    ∙ ap (met admitted (n + 1 + 1)) (append_assoc (rows p) (rows q) rs)
    ∙ tree_on admitted p a.0 (n + 1) (rows q ++ rs)
    ∙ tree_on admitted q a.1 n rs
tree_on admitted (sequence p q) a n rs =
    row_on admitted (n + 1) (n + 1 + 1) (row 3 0 0) ((rows p ++ rows q) ++ rs) (record { live = omega arith; known = omega arith; fits = refl }) (omega arith)
    ∙ ap (met admitted (n + 1 + 1)) (append_assoc (rows p) (rows q) rs)
    ∙ tree_on admitted p a.0 (n + 1) (rows q ++ rs)
    ∙ tree_on admitted q a.1 n rs
tree_on admitted (star p) a n rs =
    row_on admitted (n + 1) (n + 1) (row 4 0 0) (rows p ++ rs) (record { live = omega arith; known = omega arith; fits = refl }) (omega arith)
    ∙ tree_on admitted p a n rs

tree_met : (admitted : ℕ → ℕ → Bool) (t : Tree) → AllAdmitted admitted t → met admitted 1 (rows t) ≡ None
tree_met admitted t a = ap (met admitted 1) (sym (append-nil (rows t))) ∙ tree_on admitted t a 0 []

pub the_tree_of : (admitted : ℕ → ℕ → Bool) (rs : List Row) → met admitted 1 rs ≡ None → (t : Tree) × Of rs t × AllAdmitted admitted t
the_tree_of admitted rs e = lone (stands admitted 1 rs e)

pub checked_exactly : CheckedExactly
checked_exactly admitted rs some few = (
  (λ e. let t = the_tree_of admitted rs (sym (rows_met admitted rs (omega arith) few) ∙ e) in (t.0, t.1, t.2, λ u h. one_tree u t.0 (sym h ∙ t.1))),
  (λ t. rows_met admitted rs (omega arith) few ∙ ap (met admitted 1) t.1 ∙ tree_met admitted t.0 t.2),
)
