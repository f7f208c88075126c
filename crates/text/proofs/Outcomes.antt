-- The text and the rows lent decide what read answers.
use Rattle.std.proofs.Common.{◌≡◌, ℕ, ◌≤◌, List, ◌++◌, length, drop, Ok, Err, sym, refl, ap, ◌∙◌, ap₂, arith}
use Rattle.rules.specs.declared.row.Row.{Row}
use Rattle.rules.specs.Trees.{Tree, rows, size}
use Rattle.rules.proofs.Numbers.{same_number}
use Rattle.text.specs.Grammar.{Text}
use Rattle.text.specs.Reading.{Wrote, Denied, too_long, not_derived, too_many_rows, no_room}
use Rattle.text.specs.Theorems.{OneOutcome}
use Rattle.text.proofs.Derives.{one_tree}

same_size : {b : List ℕ} {t u : Tree} → Text b t → Text b u → size t ≡ size u
same_size d e = ap size (one_tree d e)

-- a text that can be read, with room for 64 rows, is denied by no number
pub read_not_denied : {text : List ℕ} {k : ℕ} → length text ≤ 200 → (t : Tree) → Text text t → size t ≤ 64 → Denied text 64 k → ⊥
read_not_denied s t d f (too_long h) = omega arith
read_not_denied s t d f (not_derived r h) = h t d
read_not_denied s t d f (too_many_rows r u e h) = omega (arith, same_size d e)
read_not_denied s t d f (no_room r u e g h) = omega (arith, same_size d e)

not_both : {text : List ℕ} {old new : List Row} {n k : ℕ} → Wrote text old n new → Denied text (length old) k → ⊥
not_both w (too_long h) = omega (arith, w.short)
not_both w (not_derived s h) = h w.tree w.derived
not_both w (too_many_rows s t d h) = omega (arith, w.few, w.counted, same_size w.derived d)
not_both w (no_room s t d f h) = omega (arith, w.room, w.counted, same_size w.derived d)

pub one_number : {text : List ℕ} {room m n : ℕ} → Denied text room m → Denied text room n → m ≡ n
one_number (too_long h) (too_long k) = refl
one_number (too_long h) (not_derived s k) = absurd (omega arith)
one_number (too_long h) (too_many_rows s t d k) = absurd (omega arith)
one_number (too_long h) (no_room s t d f k) = absurd (omega arith)
one_number (not_derived s h) (too_long k) = absurd (omega arith)
one_number (not_derived s h) (not_derived r k) = refl
one_number (not_derived s h) (too_many_rows r t d k) = absurd (h t d)
one_number (not_derived s h) (no_room r t d f k) = absurd (h t d)
one_number (too_many_rows s t d h) (too_long k) = absurd (omega arith)
one_number (too_many_rows s t d h) (not_derived r k) = absurd (k t d)
one_number (too_many_rows s t d h) (too_many_rows r u e k) = refl
one_number (too_many_rows s t d h) (no_room r u e f k) = absurd (omega (arith, same_size d e))
one_number (no_room s t d f h) (too_long k) = absurd (omega arith)
one_number (no_room s t d f h) (not_derived r k) = absurd (k t d)
one_number (no_room s t d f h) (too_many_rows r u e k) = absurd (omega (arith, same_size d e))
one_number (no_room s t d f h) (no_room r u e g k) = refl

pub one_outcome : OneOutcome
one_outcome text old new new2 (Ok n) (Ok m) a b =
    let e = one_tree a.derived b.derived in
    let k : n ≡ m = a.counted ∙ ap size e ∙ sym b.counted in
    (ap Ok k, a.written ∙ ap₂ (λ (t : Tree) (j : ℕ). rows t ++ drop j old) e k ∙ sym b.written)
one_outcome text old new new2 (Ok n) (Err g) a b = absurd (not_both a b.1)
one_outcome text old new new2 (Err f) (Ok m) a b = absurd (not_both b a.1)
one_outcome text old new new2 (Err f) (Err g) a b = (ap Err (same_number f g (one_number a.1 b.1)), a.0 ∙ sym b.0)
