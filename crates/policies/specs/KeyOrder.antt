-- An order by keys is an order of the readings, and a better part makes a better whole.
use Rattle.std.specs.Prelude.{◌≡◌, ℕ, suc, ◌+◌, true, ◌⊎◌, List, ◌∷◌, ◌++◌, length, drop, ◌≢◌, refl}
use Rattle.std.proofs.Common.{sym, ap, ◌∙◌, inl, inr, append_assoc, arith}
use Rattle.std.proofs.lemmas.List.{drop_at, drop-drop}
use Rattle.rules.specs.declared.row.Row.{Row}
use Rattle.rules.specs.Trees.{Tree, choice, sequence, size, row, rows, Bound}
use Rattle.rules.specs.Languages.{Sight}
use Rattle.rules.specs.Readings.{Reading, Reads, stretch, nothing}
use Rattle.policies.specs.Orders.{Decided, Replaced}
use Rattle.policies.specs.Keys.{Key, Faithful, keys, lex_above, above_by}
use Rattle.policies.specs.Lex.{lex_one, lex_not_both, lex_carries}
use Rattle.policies.specs.KeyFacts.{tells, keys_rest, whole_first, whole_second}
use Rattle.rules.proofs.RowFacts.{bound_rows, rows_from, length_rows}
use Rattle.rules.proofs.ReadingFacts.{reads_rows, nothing_rows}

-- the keys at a node are those over the rows of its tree
pub keys_at : (key : Key) {t s : Tree} {n : ℕ} → Bound t n s → (x : Reading) → length (rows s) ≡ length x → keys key (drop n (rows t)) x ≡ keys key (rows s) x
keys_at key {t} {s} {n} b x l =
    let h = rows_from b in
    rw h.1 (keys_rest key (rows s) h.0 x l)

pub decided : {key : Key} → Faithful key → Decided (above_by key)
decided {key} f = record {
  one = λ t few n s b w i j x y rx ry ne. one t n s b w i j x y rx ry ne (lex_one (keys key (drop n (rows t)) x) (keys key (drop n (rows t)) y));
  not_both = λ t few n s b w i j x y rx ry. lex_not_both (keys key (drop n (rows t)) x) (keys key (drop n (rows t)) y);
  carries = λ t few n s b w i j x y z rx ry rz. lex_carries (keys key (drop n (rows t)) x) (keys key (drop n (rows t)) y) (keys key (drop n (rows t)) z);
}
  where
    one : (t : Tree) (n : ℕ) (s : Tree) → Bound t n s → (w : List Sight) (i j : ℕ) (x y : Reading) → Reads w s i j x → Reads w s i j y → (x ≢ y)
        → (keys key (drop n (rows t)) x ≡ keys key (drop n (rows t)) y) ⊎ ((above_by key (rows t) n x y ≡ true) ⊎ (above_by key (rows t) n y x ≡ true))
        → (above_by key (rows t) n x y ≡ true) ⊎ (above_by key (rows t) n y x ≡ true)
    one t n s b w i j x y rx ry ne (inl e) = absurd (ne (tells f s w i j j x y rx ry (sym (keys_at key b x (reads_rows rx)) ∙ e ∙ keys_at key b y (reads_rows ry))).1)
    one t n s b w i j x y rx ry ne (inr c) = c

-- a node of two parts among the rows: where it and its parts begin
abbrev Node : List Row → ℕ → ℕ → Tree → Tree → Type 0
Node rs n k p q = (b : List Row) × (drop n rs ≡ row k 0 0 ∷ (rows p ++ (rows q ++ b))) × (drop (suc n) rs ≡ rows p ++ (rows q ++ b)) × (drop (suc (size p + n)) rs ≡ rows q ++ b)

node : (rs : List Row) (n k : ℕ) (p q : Tree) (b : List Row) → drop n rs ≡ (row k 0 0 ∷ (rows p ++ rows q)) ++ b → Node rs n k p q
node rs n k p q b e =
    let m : List Row = rows p ++ (rows q ++ b) in
    let whole : drop n rs ≡ row k 0 0 ∷ m = e ∙ ap (λ (r : List Row). row k 0 0 ∷ r) (append_assoc (rows p) (rows q) b) in
    let first : drop (n + 1) rs ≡ m = sym (drop-drop 1 n rs) ∙ ap (λ (r : List Row). drop 1 r) whole in
    let second : drop (n + 1 + size p) rs ≡ rows q ++ b = sym (drop-drop (size p) (n + 1) rs) ∙ ap (λ (r : List Row). drop (size p) r) first ∙ drop_at (rows p) (rows q ++ b) (size p) (length_rows p) in
    let at_first : suc n ≡ n + 1 = omega arith in
    let at_second : suc (size p + n) ≡ n + 1 + size p = omega arith in
    (b, whole, rw at_first first, rw at_second second)

-- a better first part
better_first : (key : Key) (rs : List Row) (n k : ℕ) (p q : Tree) → Node rs n k p q → (i j : ℕ) (x y z : Reading) → length (rows p) ≡ length x → length (rows p) ≡ length y
    → above_by key rs (suc n) x y ≡ true → above_by key rs n (stretch i j ∷ (x ++ z)) (stretch i j ∷ (y ++ z)) ≡ true
better_first key rs n k p q c i j x y z lx ly h =
    let m = rows q ++ c.0 in
    let h1 : lex_above (keys key (rows p ++ m) x) (keys key (rows p ++ m) y) ≡ true = rw c.2 at h in
    let h2 : lex_above (keys key (rows p) x) (keys key (rows p) y) ≡ true = rw (keys_rest key (rows p) m x lx, keys_rest key (rows p) m y ly) at h1 in
    rw c.1 (whole_first key k p m (stretch i j) (stretch i j) x z y z refl lx ly h2)

-- a better second part
better_second : (key : Key) (rs : List Row) (n k : ℕ) (p q : Tree) → Node rs n k p q → (i j : ℕ) (x y z : Reading) → length (rows p) ≡ length z
    → above_by key rs (suc (size p + n)) x y ≡ true → above_by key rs n (stretch i j ∷ (z ++ x)) (stretch i j ∷ (z ++ y)) ≡ true
better_second key rs n k p q c i j x y z lz h = rw c.1 (whole_second key k p (rows q ++ c.0) (stretch i j) (stretch i j) z x y refl lz (rw c.3 at h))

choice_node : {t : Tree} {n : ℕ} {p q : Tree} → Bound t n (choice p q) → Node (rows t) n 2 p q
choice_node {t} {n} {p} {q} b = let h = bound_rows b in node (rows t) n 2 p q h.rest h.is

sequence_node : {t : Tree} {n : ℕ} {p q : Tree} → Bound t n (sequence p q) → Node (rows t) n 3 p q
sequence_node {t} {n} {p} {q} b = let h = bound_rows b in node (rows t) n 3 p q h.rest h.is

pub replaced : (key : Key) → Replaced (above_by key)
replaced key = record {
  choice_first = λ t few n p q b w i j x y rx ry h. better_first key (rows t) n 2 p q (choice_node b) i j x y (nothing q) (reads_rows rx) (reads_rows ry) h;
  choice_second = λ t few n p q b w i j x y rx ry h. better_second key (rows t) n 2 p q (choice_node b) i j x y (nothing p) (nothing_rows p) h;
  sequence_first = λ t few n p q b w i k j x y z rx ry rz h. better_first key (rows t) n 3 p q (sequence_node b) i j x y z (reads_rows rx) (reads_rows ry) h;
  sequence_second = λ t few n p q b w i k j z x y rz rx ry h. better_second key (rows t) n 3 p q (sequence_node b) i j x y z (reads_rows rz) h;
}
