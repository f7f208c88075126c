-- The whole text, from what the reader of texts has read.
use Rattle.std.proofs.Common.{◌≡◌, ℕ, suc, ◌<◌, ◌≤◌, List, [], ◌∷◌, length, get_or, take, drop, sym, refl, ◌∙◌, subst, ap₂, arith, length-take}
use Rattle.rules.specs.declared.row.Row.{Row}
use Rattle.rules.specs.Trees.{Tree, row, rows, size}
use Rattle.text.specs.Grammar.{Text}
use Rattle.text.specs.Readers.{ReadText}
use Rattle.text.specs.Written.{Holds, Reaches, Refuses}
use Rattle.text.proofs.Unique.{same_text}
use Rattle.text.proofs.Derives.{derives_reads, reads_derives}
use Rattle.text.proofs.Steps.{moved_from}
use Rattle.text.proofs.Bytes.{past, not_past}
use Rattle.rules.proofs.RowFacts.{length_rows}

pub from_start : {text text2 : List ℕ} {at count to end : ℕ} {old new : List Row} → text2 ≡ text → at ≡ 0 → count ≡ 0 → Reaches ReadText text2 at count to end old new → Reaches ReadText text 0 0 to end old new
from_start e f g r = moved_from e f g refl r

pub none_read : {text text2 : List ℕ} {at : ℕ} → text2 ≡ text → at ≡ 0 → Refuses ReadText (drop at text2) → (t : Tree) → Text text t → ⊥
none_read {text} {text2} e f h t d = subst (λ (w : List ℕ). Refuses ReadText w) e (subst (λ (n : ℕ). Refuses ReadText (drop n text2)) f h) t [] (derives_reads d)

pub cut_short : {text : List ℕ} {to end : ℕ} {old new : List Row} → Reaches ReadText text 0 0 to end old new → to < length text → (t : Tree) → Text text t → ⊥
cut_short {text} {to} r h t d = not_past text to h (same_text r.reads (derives_reads d)).1

pub all_read : {text : List ℕ} {to end : ℕ} {old new : List Row} → (r : Reaches ReadText text 0 0 to end old new) → length text ≤ to → Text text r.tree
all_read {text} {to} r h = reads_derives (subst (λ (w : List ℕ). ReadText text r.tree w) (past text to h) r.reads)

pub all_counted : {text : List ℕ} {to end : ℕ} {old new : List Row} → (r : Reaches ReadText text 0 0 to end old new) → end ≡ size r.tree
all_counted r = omega (arith, r.counted)

same_front : (xs buffer : List Row) → length xs ≤ length buffer → ((k : ℕ) → k < length xs → get_or buffer k (row 0 0 0) ≡ get_or xs k (row 0 0 0)) → take (length xs) buffer ≡ xs
same_front [] buffer h e = refl
same_front (x ∷ xs) [] h e = absurd (omega arith)
same_front (x ∷ xs) (b ∷ buffer) h e = ap₂ (λ (w : Row) (ws : List Row). w ∷ ws) (e 0 (omega arith)) (same_front xs buffer (omega arith) (λ k l. e (suc k) (omega arith)))

pub all_written : {text : List ℕ} {to end : ℕ} {old new : List Row} → (r : Reaches ReadText text 0 0 to end old new) → end ≤ 64 → length (take end new) ≡ end → take end new ≡ rows r.tree
all_written {end = end} {new = new} r few long =
    let n : length (rows r.tree) ≡ end = length_rows r.tree ∙ sym (all_counted r) in
    let h : Holds new (rows r.tree) = r.written [] refl (λ k l m. absurd (omega arith)) in
    subst (λ (m : ℕ). take m new ≡ rows r.tree) n (same_front (rows r.tree) new (omega (arith, length-take {A = Row})) (λ k l. h k l (omega arith)))
