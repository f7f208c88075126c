-- Rows of a tree: how many they are, and where those of a node stand.
use Rattle.std.proofs.Common.{◌≡◌, ℕ, suc, ◌+◌, ◌≤◌, List, [], ◌∷◌, ◌++◌, length, drop, sym, refl, ap, ◌∙◌, append_assoc, append-nil, arith, length-append, length-drop}
use Rattle.std.proofs.lemmas.List.{drop_at, drop-drop, drop-append-le}
use Rattle.rules.specs.declared.row.Row.{Row}
use Rattle.rules.specs.Nodes.{Stands}
use Rattle.rules.specs.Trees.{Tree, empty, leaf, choice, sequence, star, size, leaves, row, rows, Bound, here, choice_first, choice_second, sequence_first, sequence_second}

pub length_rows : (t : Tree) → length (rows t) ≡ size t
length_rows empty = refl
length_rows (leaf lo hi) = refl
length_rows (choice p q) = let a = length_rows p in let b = length_rows q in omega (arith, length-append (rows p) (rows q))
length_rows (sequence p q) = let a = length_rows p in let b = length_rows q in omega (arith, length-append (rows p) (rows q))
length_rows (star p) = ap suc (length_rows p)

-- a tree's first row, and the others
abbrev pub Rowed : Tree → Type 0
Rowed t = (r : Row) × (rs : List Row) × (rows t ≡ r ∷ rs)

pub first_row : (t : Tree) → Rowed t
first_row empty = (row 0 0 0, [], refl)
first_row (leaf lo hi) = (row 1 lo hi, [], refl)
first_row (choice p q) = (row 2 0 0, rows p ++ rows q, refl)
first_row (sequence p q) = (row 3 0 0, rows p ++ rows q, refl)
first_row (star p) = (row 4 0 0, rows p, refl)

-- the rows before those of a node are some of the rule's
within : (p s : Tree) (n : ℕ) → Stands (rows p) n s → n ≤ length (rows p)
within p s n h = omega (arith, length-drop n (rows p), ap length h.is ∙ length-append (rows s) h.rest, ap length (first_row s).2)

under : (k : ℕ) (p q s : Tree) {n : ℕ} → Stands (rows p) n s → Stands (row k 0 0 ∷ (rows p ++ rows q)) (suc n) s
under k p q s {n} h = record {
  rest = h.rest ++ rows q;
  is = drop-append-le n (rows p) (rows q) (within p s n h) ∙ ap (λ (r : List Row). r ++ rows q) h.is ∙ append_assoc (rows s) h.rest (rows q);
}

beside : (k : ℕ) (p q s : Tree) {n : ℕ} → Stands (rows q) n s → Stands (row k 0 0 ∷ (rows p ++ rows q)) (suc (size p + n)) s
beside k p q s {n} h = record {
  rest = h.rest;
  is = sym (drop-drop n (size p) (rows p ++ rows q)) ∙ ap (λ (r : List Row). drop n r) (drop_at (rows p) (rows q) (size p) (length_rows p)) ∙ h.is;
}

-- the tree at a node: its rows stand there
pub bound_rows : {t s : Tree} {n : ℕ} → Bound t n s → Stands (rows t) n s
bound_rows (here {t = t}) = record { rest = []; is = sym (append-nil (rows t)) }
bound_rows (choice_first {p = p} {q = q} {s = s} h) = under 2 p q s (bound_rows h)
bound_rows (choice_second {p = p} {q = q} {s = s} h) = beside 2 p q s (bound_rows h)
bound_rows (sequence_first {p = p} {q = q} {s = s} h) = under 3 p q s (bound_rows h)
bound_rows (sequence_second {p = p} {q = q} {s = s} h) = beside 3 p q s (bound_rows h)

-- the rows from a node on: those of its tree, and more
pub rows_from : {t s : Tree} {n : ℕ} → Bound t n s → (b : List Row) × (drop n (rows t) ≡ rows s ++ b)
rows_from b = let h = bound_rows b in (h.rest, h.is)

-- two leaves need three rows
leaves_rows : (t : Tree) → leaves t + leaves t ≤ suc (size t)
leaves_rows empty = omega arith
leaves_rows (leaf lo hi) = omega arith
leaves_rows (choice p q) = omega (arith, leaves_rows p, leaves_rows q)
leaves_rows (sequence p q) = omega (arith, leaves_rows p, leaves_rows q)
leaves_rows (star p) = omega (arith, leaves_rows p)

pub few_leaves : (t : Tree) → size t ≤ 64 → leaves t ≤ 32
few_leaves t h = omega (arith, leaves_rows t)
