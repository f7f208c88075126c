-- Gathering the leaves from the rows.
use Rattle.std.proofs.Common.{◌≡◌, ℕ, suc, ◌+◌, ◌-◌, ◌<◌, ◌≤◌, cond, eqb, List, [], ◌∷◌, ◌++◌, length, get_or, take, drop, set, replicate, Some, None, Option, sym, refl, ap, ◌∙◌, ap₂, ⊎_elim, append_assoc, append-nil, arith, length-append}
use Rattle.std.proofs.lemmas.List.{take-append-drop, take_more, take_all, drop_more, set_at}
use Rattle.std.proofs.lemmas.Bool.{eq-eqb, eqb-true, ne_eqb, cases_Bool}
use Rattle.rules.specs.declared.row.Row.{Row}
use Rattle.rules.specs.RuleRows.{Ruled}
use Rattle.rules.specs.Trees.{Tree, empty, leaf, choice, sequence, star, rows, leaves, Of}
use Rattle.rules.proofs.RowFacts.{few_leaves}
use Rattle.positions.specs.Positions.{leaf_of}
use Rattle.positions.proofs.Runs.{length_leaf_of}

-- the leaf of a row, if it has one
abbrev leaf_row : Row → List (ℕ × ℕ)
leaf_row r = cond (eqb r.kind 1) ((r.lo, r.hi) ∷ []) []

abbrev leaf_rows : List Row → List (ℕ × ℕ)
leaf_rows [] = []
leaf_rows (r ∷ rs) = leaf_row r ++ leaf_rows rs

leaf_rows_append : (xs ys : List Row) → leaf_rows (xs ++ ys) ≡ leaf_rows xs ++ leaf_rows ys
leaf_rows_append [] ys = refl
leaf_rows_append (x ∷ xs) ys = ap (λ z. leaf_row x ++ z) (leaf_rows_append xs ys) ∙ sym (append_assoc (leaf_row x) (leaf_rows xs) (leaf_rows ys))

leaf_rows_of : (t : Tree) → leaf_rows (rows t) ≡ leaf_of t
leaf_rows_of empty = refl
leaf_rows_of (leaf lo hi) = refl
leaf_rows_of (choice p q) = leaf_rows_append (rows p) (rows q) ∙ ap₂ ◌++◌ (leaf_rows_of p) (leaf_rows_of q)
leaf_rows_of (sequence p q) = leaf_rows_append (rows p) (rows q) ∙ ap₂ ◌++◌ (leaf_rows_of p) (leaf_rows_of q)
leaf_rows_of (star p) = leaf_rows_of p

rows_count : (rs : List Row) (t : Tree) → Of rs t → length (leaf_rows rs) ≡ leaves t
rows_count rs t e = ap (λ z. length (leaf_rows z)) e ∙ ap length (leaf_rows_of t) ∙ length_leaf_of t

-- the leaves of the rows before i stand in front, and zeros behind them
pub record Gathered (rs : List Row) (i count : ℕ) (ls : List (ℕ × ℕ)) : Type 0 where
  pub so_far : ls ≡ leaf_rows (take i rs) ++ replicate (32 - count) (0, 0)
  pub counted : count ≡ length (leaf_rows (take i rs))

pub gathered_none : (rs : List Row) → Gathered rs 0 0 (replicate 32 (0, 0))
gathered_none rs = record { so_far = refl; counted = refl }

-- the leaves before row i, that row's, and those behind it
split_at : (rs : List Row) (i : ℕ) (d : Row) → i < length rs → leaf_rows rs ≡ leaf_rows (take i rs) ++ (leaf_row (get_or rs i d) ++ leaf_rows (drop (i + 1) rs))
split_at rs i d lt =
    ap leaf_rows (sym (take-append-drop i rs)) ∙ leaf_rows_append (take i rs) (drop i rs) ∙ ap (λ z. leaf_rows (take i rs) ++ leaf_rows z) (drop_more rs i d lt)

leaf_here : (r : Row) → r.kind ≡ 1 → leaf_row r ≡ (r.lo, r.hi) ∷ []
leaf_here r e = ap (λ b. cond b ((r.lo, r.hi) ∷ []) []) (eq-eqb r.kind 1 e)

none_here : (r : Row) → (r.kind ≡ 1 → ⊥) → leaf_row r ≡ []
none_here r n = ap (λ b. cond b ((r.lo, r.hi) ∷ []) []) (ne_eqb r.kind 1 n)

next_rows : (rs : List Row) (i : ℕ) (d : Row) (l : List (ℕ × ℕ)) → i < length rs → leaf_row (get_or rs i d) ≡ l → leaf_rows (take (i + 1) rs) ≡ leaf_rows (take i rs) ++ l
next_rows rs i d l lt e =
    ap leaf_rows (take_more rs i d lt) ∙ leaf_rows_append (take i rs) (get_or rs i d ∷ []) ∙ ap (λ z. leaf_rows (take i rs) ++ z) (append-nil (leaf_row (get_or rs i d)) ∙ e)

-- what the test of a row tells
pub some_leaf : (r : Row) (l : ℕ × ℕ) → Some l ≡ cond (eqb r.kind 1) (Some (r.lo, r.hi)) None → (r.kind ≡ 1) × (l ≡ (r.lo, r.hi))
some_leaf r l e =
    ⊎_elim
    (λ t. let k : ◌≡◌ {A = Option (ℕ × ℕ)} (Some l) (Some (r.lo, r.hi)) = e ∙ ap (λ b. cond b (Some (r.lo, r.hi)) None) t in (eqb-true r.kind 1 t, (cc)))
    (λ f. let k : ◌≡◌ {A = Option (ℕ × ℕ)} (Some l) None = e ∙ ap (λ b. cond b (Some (r.lo, r.hi)) None) f in (cc))
    (cases_Bool (eqb r.kind 1))

pub no_leaf : (r : Row) → ◌≡◌ {A = Option (ℕ × ℕ)} None (cond (eqb r.kind 1) (Some (r.lo, r.hi)) None) → r.kind ≡ 1 → ⊥
no_leaf r e h = let k : ◌≡◌ {A = Option (ℕ × ℕ)} None (Some (r.lo, r.hi)) = e ∙ ap (λ b. cond b (Some (r.lo, r.hi)) None) (eq-eqb r.kind 1 h) in (cc)

pub gathered_room : (rs : List Row) (i count : ℕ) (ls : List (ℕ × ℕ)) (d : Row) → i < length rs → Ruled rs → (get_or rs i d).kind ≡ 1 → Gathered rs i count ls → count < 32
gathered_room rs i count ls d lt ruled k h =
    let r = get_or rs i d in
    let a = leaf_rows (take i rs) in
    let b = leaf_rows (drop (i + 1) rs) in
    let whole : leaf_rows rs ≡ a ++ ((r.lo, r.hi) ∷ b) = split_at rs i d lt ∙ ap (λ z. a ++ (z ++ b)) (leaf_here r k) in
    let few : length (leaf_rows rs) ≤ 32 = omega (arith, rows_count rs ruled.tree ruled.of, few_leaves ruled.tree ruled.few) in
    omega (arith, ap length whole, length-append a ((r.lo, r.hi) ∷ b), h.counted)

pub gathered_leaf : (rs : List Row) (i count : ℕ) (ls after : List (ℕ × ℕ)) (d : Row) → i < length rs → count < 32 → (get_or rs i d).kind ≡ 1
    → after ≡ set ls count ((get_or rs i d).lo, (get_or rs i d).hi) → Gathered rs i count ls → Gathered rs (i + 1) (count + 1) after
gathered_leaf rs i count ls after d lt room k f h =
    let r = get_or rs i d in
    let v : ℕ × ℕ = (r.lo, r.hi) in
    let a = leaf_rows (take i rs) in
    let zs : List (ℕ × ℕ) = replicate (32 - (count + 1)) (0, 0) in
    let e : 32 - count ≡ suc (32 - (count + 1)) = omega arith in
    let at : ls ≡ a ++ ((0, 0) ∷ zs) = h.so_far ∙ ap (λ m. a ++ replicate m (0, 0)) e in
    let next : leaf_rows (take (i + 1) rs) ≡ a ++ (v ∷ []) = next_rows rs i d (v ∷ []) lt (leaf_here r k) in
    record {
      so_far = f ∙ ap (λ z. set z count v) at ∙ set_at a (0, 0) zs v count (sym h.counted) ∙ sym (append_assoc a (v ∷ []) zs) ∙ ap (λ z. z ++ zs) (sym next);
      counted = omega (arith, ap length next, length-append a (v ∷ []), h.counted);
    }

pub gathered_other : (rs : List Row) (i count : ℕ) (ls : List (ℕ × ℕ)) (d : Row) → i < length rs → ((get_or rs i d).kind ≡ 1 → ⊥) → Gathered rs i count ls → Gathered rs (i + 1) count ls
gathered_other rs i count ls d lt k h =
    let next : leaf_rows (take (i + 1) rs) ≡ leaf_rows (take i rs) = next_rows rs i d [] lt (none_here (get_or rs i d) k) ∙ append-nil (leaf_rows (take i rs)) in
    record {
      so_far = h.so_far ∙ ap (λ z. z ++ replicate (32 - count) (0, 0)) (sym next);
      counted = h.counted ∙ ap length (sym next);
    }

pub gathered_as : (rs : List Row) (i m n : ℕ) (ls after : List (ℕ × ℕ)) → n ≡ m → after ≡ ls → Gathered rs i m ls → Gathered rs i n after
gathered_as rs i m n ls after e f h = record {
  so_far = f ∙ h.so_far ∙ ap (λ k. leaf_rows (take i rs) ++ replicate (32 - k) (0, 0)) (sym e);
  counted = e ∙ h.counted;
}

pub gathered_all : (rs : List Row) (i count : ℕ) (ls : List (ℕ × ℕ)) → length rs ≤ i → Gathered rs i count ls → (t : Tree) → Of rs t → ls ≡ leaf_of t ++ replicate (32 - leaves t) (0, 0)
gathered_all rs i count ls le h t e =
    let whole : take i rs ≡ rs = take_all i rs le in
    let count_is : count ≡ leaves t = h.counted ∙ ap (λ z. length (leaf_rows z)) whole ∙ rows_count rs t e in
    h.so_far ∙ ap₂ (λ l m. leaf_rows l ++ replicate (32 - m) (0, 0)) (whole ∙ e) count_is ∙ ap (λ z. z ++ replicate (32 - leaves t) (0, 0)) (leaf_rows_of t)
