use Rattle.std.proofs.Common.{◌≡◌, ℕ, List, [], ◌∷◌, length, Vec, vec_len, Global, Option, None, replicate, refl, ap, ◌∙◌, arith, rules}
use Rattle.std.proofs.lemmas.List.{length-replicate}
use Rattle.std.proofs.lemmas.List.Elements.{All-cons}
use Rattle.cases.specs.Sizes.{size, EachHas}
use Rattle.cases.proofs.lister.+listing.Goals as goal
use Rattle.cases.proofs.lister.+listing.Goals.{list_sequence-else-loop-at-test, list_sequence-then-loop-at-test+in_ok-list+in_ok-list-2+in_ok-add_all+else-at-at-end}

abbrev Reading : Type 0
Reading = Vec (Option (ℕ × ℕ)) Global

-- the same readings, as a slice
lent : {xs ys : List Reading} (n : ℕ) → ys ≡ xs → EachHas n xs → EachHas n ys
lent n e h = rw e h

-- the one reading that takes no part
alone : (n : ℕ) (v : Reading) → v.items ≡ replicate n None → EachHas n (v ∷ [])
alone n v e = All-cons (λ (r : Reading). vec_len r ≡ n) v [] (omega (arith, v.ok.0, ap length e ∙ length-replicate n None)) (λ k d lt. absurd (omega arith))

pub list-returns-in_ok-add_all-in-Choice-2 : goal.list-returns-in_ok-add_all-in-Choice-2
list-returns-in_ok-add_all-in-Choice-2 t c =
    let n = size c.args.tree.now in
    let p = size c.deref.result.now in
    let q = size c.deref-in-Choice-2.result.now in
    let v = size c.deref-in-Choice-3.result.now in
    let w = size c.deref-in-Choice-4.result.now in
    c.in_ok-add_all-in-Choice-2.ensures v w n (search rules) (alone v _ c.in_ok-nothing-in-Choice-2.ensures) (lent w c.deref-in-Choice-5.ensures.value c.in_ok-list-in-Choice-2.ensures)
    (c.in_ok-add_all-in-Choice.ensures p q n (search rules) (lent p c.deref-in-Choice.ensures.value c.in_ok-list-in-Choice.ensures) (alone q _ c.in_ok-nothing-in-Choice.ensures) (c.new-found.ensures n))

pub list_sequence-loop-at-preserved : goal.list_sequence-loop-at-preserved
list_sequence-loop-at-preserved t c =
    let p = size c.args.first.now in
    let q = size c.args.second.now in
    c.in_ok-add_all.ensures p q _ refl (lent p c.deref.ensures.value c.in_ok-list.ensures) (lent q c.deref-in-loop-at.ensures.value c.in_ok-list-2.ensures) c.loop-at.invariant

pub list_sequence-loop-at-init : goal.list_sequence-loop-at-init
list_sequence-loop-at-init t c = c.new-found.ensures _

pub list_sequence-returns : goal.list_sequence-returns
list_sequence-returns t c =
    let p = size c.args.first.now in
    let q = size c.args.second.now in
    elim c.loop-at-test.branch [
      | list_sequence-else-loop-at-test w ↦ rw w.found-is c.loop-at.invariant
      | list_sequence-then-loop-at-test+in_ok-list+in_ok-list-2+in_ok-add_all+else-at-at-end w ↦
          rw w.found-is (w.in_ok-add_all.ensures p q _ refl (lent p w.deref.ensures.value w.in_ok-list.ensures) (lent q w.deref-in-loop-at.ensures.value w.in_ok-list-2.ensures) c.loop-at.invariant)
    ]
