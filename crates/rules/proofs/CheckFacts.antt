-- The checks on rows, row by row.
use Rattle.std.proofs.Common.{◌≡◌, ℕ, ◌+◌, ◌<◌, ◌≤◌, Bool, true, false, cond, ◌||◌, eqb, ltb, List, ◌++◌, length, get_or, take, drop, Some, None, Option, sym, refl, ap, ◌∙◌, arith}
use Rattle.std.proofs.lemmas.List.{drop_all, drop_more, take_at}
use Rattle.std.proofs.lemmas.Bool.{eq-eqb, ne_eqb, lt-ltb, le-ltb, cond_both}
use Rattle.rules.specs.declared.row.Row.{Row}
use Rattle.rules.specs.Checks.{parts, open_after, row_met, first_met, met, checks}

pub parts_few : (kind : ℕ) → parts kind ≤ 2
parts_few kind = cond_both (eqb kind 2 || eqb kind 3) 2 (cond (eqb kind 4) 1 0) (λ n. n ≤ 2) (λ _. omega arith) (λ _. cond_both (eqb kind 4) 1 0 (λ n. n ≤ 2) (λ _. omega arith) (λ _. omega arith))

-- A turn of the loop over the rows: m is what the whole rows meet, and what is left of them from i on meets the same.
module _ (admitted : ℕ → ℕ → Bool) (n : ℕ) (rs : List Row) (i : ℕ) (d : Row) (m : Option ℕ) (same : met admitted n (drop i rs) ≡ m) where
  here : i < length rs → m ≡ first_met (row_met admitted n (get_or rs i d)) (met admitted (open_after n (get_or rs i d).kind) (drop (i + 1) rs))
  here h = sym same ∙ ap (met admitted n) (drop_more rs i d h)

  pub row_stops : (k : ℕ) → i < length rs → row_met admitted n (get_or rs i d) ≡ Some k → m ≡ Some k
  row_stops k h e = here h ∙ ap (λ (o : Option ℕ). first_met o (met admitted (open_after n (get_or rs i d).kind) (drop (i + 1) rs))) e

  pub row_passes : (count : ℕ) → i < length rs → row_met admitted n (get_or rs i d) ≡ None → count ≡ open_after n (get_or rs i d).kind → met admitted count (drop (i + 1) rs) ≡ m
  row_passes count h e f =
      ap (λ (c : ℕ). met admitted c (drop (i + 1) rs)) f
      ∙ sym (here h ∙ ap (λ (o : Option ℕ). first_met o (met admitted (open_after n (get_or rs i d).kind) (drop (i + 1) rs))) e)

  pub rows_end : length rs ≤ i → m ≡ cond (eqb n 0) None (Some 6)
  rows_end h = sym same ∙ ap (met admitted n) (drop_all i rs h)

-- the number of rows is checked first
module _ (admitted : ℕ → ℕ → Bool) (rs : List Row) where
  pub none_met : length rs ≡ 0 → checks admitted rs ≡ Some 2
  none_met h = let e : eqb (length rs) 0 ≡ true = eq-eqb (length rs) 0 h in rw e

  pub many_met : 64 < length rs → checks admitted rs ≡ Some 2
  many_met h =
      let e : eqb (length rs) 0 ≡ false = ne_eqb (length rs) 0 (omega arith) in
      let f : ltb 64 (length rs) ≡ true = lt-ltb 64 (length rs) h in
      rw (e, f)

  pub rows_met : (length rs ≡ 0 → ⊥) → length rs ≤ 64 → checks admitted rs ≡ met admitted 1 rs
  rows_met h k =
      let e : eqb (length rs) 0 ≡ false = ne_eqb (length rs) 0 h in
      let f : ltb 64 (length rs) ≡ false = le-ltb 64 (length rs) k in
      rw (e, f)

-- rows copied to the front of others
pub front_kept : (rs copied rest : List Row) → copied ≡ rs → take (length rs) (copied ++ rest) ≡ rs
front_kept rs copied rest e = ap (λ (l : List Row). take (length rs) (l ++ rest)) e ∙ take_at rs rest (length rs) refl
