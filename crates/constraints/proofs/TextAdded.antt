-- A text that is read is added as the rows of its tree.
use Rattle.std.proofs.Common.{◌≡◌, ℕ, List, ◌++◌, length, take, drop, Result, sym, ap, ◌∙◌, subst, arith}
use lib.Seq.{take-append_seam}
use Rattle.rules.specs.declared.row.Row.{Row}
use Rattle.rules.specs.Alphabets.{bytes_admitted}
use Rattle.rules.specs.Trees.{rows}
use Rattle.rules.proofs.RowFacts.{length_rows}
use Rattle.text.specs.Reading.{Wrote}
use Rattle.sheet.specs.Changes.{Rules, add_answer, added}
use Rattle.constraints.specs.Served.{TextAdded, text_read}

-- the rows that are handed on are those of the tree
taken : {text : List ℕ} {old new : List Row} {n : ℕ} (w : Wrote text old n new) → take n new ≡ rows w.tree
taken {text} {old} {new} {n} w =
    let l : n ≡ length (rows w.tree) = omega (arith, w.counted, length_rows w.tree) in
    ap (λ (x : List Row). take n x) w.written ∙ ap (λ (k : ℕ). take k (rows w.tree ++ drop n old)) l ∙ take-append_seam (rows w.tree) (drop n old)

pub read_added : {text : List ℕ} {old new : List Row} {n : ℕ} (rules rules' : Rules) (r : Result ℕ ℕ) → (w : Wrote text old n new)
    → r ≡ add_answer bytes_admitted rules (take n new) → rules' ≡ added bytes_admitted rules (take n new) → TextAdded rules text rules' r
read_added {text} rules rules' r w a b =
    let e = taken w in
    let P : Rules → Type 0 = λ x. TextAdded rules text x r in
    let Q : Result ℕ ℕ → Type 0 = λ x. TextAdded rules text (added bytes_admitted rules (rows w.tree)) x in
    subst P (sym (b ∙ ap (λ (x : List Row). added bytes_admitted rules x) e))
    (subst Q (sym (a ∙ ap (λ (x : List Row). add_answer bytes_admitted rules x) e)) (text_read w.short w.tree w.derived (omega (arith, w.few, w.counted))))
