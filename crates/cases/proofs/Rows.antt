-- How many rows the trees have that begin some rows.
use Rattle.std.proofs.Common.{◌≡◌, ℕ, zero, suc, ◌+◌, ◌-◌, ◌<◌, List, [], ◌∷◌, ◌++◌, length, get_or, take, drop, sym, refl, ap, ◌∙◌, append_assoc, arith}
use Rattle.std.proofs.lemmas.List.{at_drop_more, take_at, drop_at, take_all}
use Rattle.rules.specs.declared.row.Row.{Row}
use Rattle.rules.specs.Checks.{parts}
use Rattle.rules.specs.Trees.{Tree, empty, leaf, choice, sequence, star, row, rows, size}
use Rattle.rules.proofs.RowFacts.{length_rows}
use Rattle.cases.specs.Sizes.{rows_taken}

-- a row in front, of so many parts
row_on : (n m : ℕ) (r : Row) (rs : List Row) → m ≡ n + parts r.kind → rows_taken (suc n) (r ∷ rs) ≡ suc (rows_taken m rs)
row_on n m r rs e = ap (λ k. suc (rows_taken k rs)) (sym e)

-- a tree in front of others
tree_on : (t : Tree) (n : ℕ) (rs : List Row) → rows_taken (suc n) (rows t ++ rs) ≡ size t + rows_taken n rs
tree_on empty n rs = omega (arith, row_on n n (row 0 0 0) rs (omega arith))
tree_on (leaf lo hi) n rs = omega (arith, row_on n n (row 1 lo hi) rs (omega arith))
tree_on (choice p q) n rs =
    let e = ap (rows_taken (suc (suc n))) (append_assoc (rows p) (rows q) rs) in
    omega (arith, row_on n (suc (suc n)) (row 2 0 0) ((rows p ++ rows q) ++ rs) (omega arith), e, tree_on p (suc n) (rows q ++ rs), tree_on q n rs)
tree_on (sequence p q) n rs =
    let e = ap (rows_taken (suc (suc n))) (append_assoc (rows p) (rows q) rs) in
    omega (arith, row_on n (suc (suc n)) (row 3 0 0) ((rows p ++ rows q) ++ rs) (omega arith), e, tree_on p (suc n) (rows q ++ rs), tree_on q n rs)
tree_on (star p) n rs = omega (arith, row_on n (suc n) (row 4 0 0) (rows p ++ rs) (omega arith), tree_on p n rs)

pub none_taken : (rs : List Row) → rows_taken 0 rs ≡ 0
none_taken [] = refl
none_taken (r ∷ rs) = refl

-- a tree that begins rows takes its own
pub tree_taken : (rs : List Row) (t : Tree) (rest : List Row) → rs ≡ rows t ++ rest → rows_taken 1 rs ≡ size t
tree_taken rs t rest e = omega (arith, ap (rows_taken 1) e, tree_on t 0 rest, none_taken rest)

-- one row on
pub row_taken : (rs : List Row) (i n m : ℕ) (d : Row) → i < length rs → 0 < n → m ≡ n - 1 + parts (get_or rs i d).kind → rows_taken n (drop i rs) ≡ suc (rows_taken m (drop (i + 1) rs))
row_taken rs i zero m d h live e = absurd (omega arith)
row_taken rs i (suc n) m d h live e = at_drop_more (rows_taken (suc n)) rs i d h ∙ row_on n m (get_or rs i d) (drop (i + 1) rs) (omega arith)

-- the rows of two trees, taken apart
pub first_taken : (p q : Tree) (rs : List Row) (n : ℕ) → rs ≡ rows p ++ rows q → n ≡ size p → take n rs ≡ rows p
first_taken p q rs n e f = ap (take n) e ∙ take_at (rows p) (rows q) n (omega (arith, length_rows p))

pub second_taken : (p q : Tree) (rs : List Row) (n : ℕ) → rs ≡ rows p ++ rows q → n ≡ size p → drop n rs ≡ rows q
second_taken p q rs n e f = ap (drop n) e ∙ drop_at (rows p) (rows q) n (omega (arith, length_rows p))

-- the rows after the first
pub rows_below : (rs more : List Row) (x : Row) → rs ≡ x ∷ more → take (length rs - 1) (drop 1 rs) ≡ more
rows_below rs more x e = ap (take (length rs - 1)) (ap (drop 1) e) ∙ take_all (length rs - 1) more (omega (arith, ap length e))
