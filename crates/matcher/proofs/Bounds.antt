-- Nodes with no star above them.
use Rattle.std.proofs.Common.{◌≡◌, ℕ, suc, ◌+◌, ◌≤◌, List, length, sym, ap, subst, arith}
use Rattle.rules.specs.declared.row.Row.{Row}
use Rattle.rules.specs.Trees.{Tree, choice, sequence, size, Of, Bound, here}
use Rattle.rules.specs.Trees as Trees
use Rattle.rules.proofs.RowFacts.{length_rows, rows_from}
use Rattle.rules.specs.Nodes.{Stands}

moved : (t s : Tree) (a b : ℕ) → a ≡ b → Bound t a s → Bound t b s
moved t s a b e h = let P : ℕ → Type 0 = λ k. Bound t k s in subst P e h

pub bound_in : (t s r : Tree) (m k : ℕ) → Bound t m s → Bound s k r → Bound t (m + k) r
bound_in t s r m k here b = moved t r k (0 + k) (omega arith) b
bound_in t s r m k (Trees.choice_first {p = p} {q = q} {n = n} a) b = moved t r (suc (n + k)) (suc n + k) (omega arith) (Trees.choice_first (bound_in p s r n k a b))
bound_in t s r m k (Trees.choice_second {p = p} {q = q} {n = n} a) b = moved t r (suc (size p + (n + k))) (suc (size p + n) + k) (omega arith) (Trees.choice_second (bound_in q s r n k a b))
bound_in t s r m k (Trees.sequence_first {p = p} {q = q} {n = n} a) b = moved t r (suc (n + k)) (suc n + k) (omega arith) (Trees.sequence_first (bound_in p s r n k a b))
bound_in t s r m k (Trees.sequence_second {p = p} {q = q} {n = n} a) b = moved t r (suc (size p + (n + k))) (suc (size p + n) + k) (omega arith) (Trees.sequence_second (bound_in q s r n k a b))

pub choice_left : (t p q : Tree) (m : ℕ) → Bound t m (choice p q) → Bound t (m + 1) p
choice_left t p q m b = bound_in t (choice p q) p m 1 b (Trees.choice_first here)

pub choice_right : (t p q : Tree) (m : ℕ) → Bound t m (choice p q) → Bound t (m + 1 + size p) q
choice_right t p q m b = moved t q (m + suc (size p + 0)) (m + 1 + size p) (omega arith) (bound_in t (choice p q) q m (suc (size p + 0)) b (Trees.choice_second here))

pub sequence_left : (t p q : Tree) (m : ℕ) → Bound t m (sequence p q) → Bound t (m + 1) p
sequence_left t p q m b = bound_in t (sequence p q) p m 1 b (Trees.sequence_first here)

pub sequence_right : (t p q : Tree) (m : ℕ) → Bound t m (sequence p q) → Bound t (m + 1 + size p) q
sequence_right t p q m b = moved t q (m + suc (size p + 0)) (m + 1 + size p) (omega arith) (bound_in t (sequence p q) q m (suc (size p + 0)) b (Trees.sequence_second here))

pub bound_stands : (rs : List Row) (t s : Tree) (m : ℕ) → Of rs t → Bound t m s → Stands rs m s
bound_stands rs t s m e b =
    let h = rows_from b in
    let P : List Row → Type 0 = λ x. Stands x m s in
    subst P (sym e) (record { rest = h.0; is = h.1 })

pub few_nodes : (rs : List Row) (t : Tree) → Of rs t → length rs ≤ 64 → size t ≤ 64
few_nodes rs t e l = omega (arith, ap length e, length_rows t)
