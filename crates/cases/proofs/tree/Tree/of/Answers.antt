use Rattle.std.proofs.Common.{◌≡◌, ◌++◌, List, [], ◌∷◌, length, map, reverse, sym, ap, ◌∙◌, rules, arith, false, vec_len, ◌+◌, sum_by, length-append}
use Rattle.std.proofs.lemmas.List.{map-append, reverse-reverse}
use Rattle.std.proofs.lemmas.Bool.Decides.{nat_tests}
use Rattle.cases.specs.Sizes.{size}
use Rattle.std.proofs.lemmas.Iterator.Adapters.{YieldsList-from_rev_slice}
use Rattle.std.proofs.lemmas.Iterator.Consumers.{YieldsList-so_far, YieldsList-turn, YieldsList-end}
use Rattle.rules.specs.declared.row.Row.{Row}
use Rattle.cases.specs.Parts.{stacked}
use Rattle.cases.proofs.Stacks.{Stood, stood_none, grow, never, turned, turned_more, popped, at_some, at_none, if_some, sizes_more}
use Rattle.cases.proofs.tree.Tree.of.Goals as goal
use Rattle.cases.proofs.tree.Tree.of.Goals.{then-is_empty, else-is_empty+in-Some+in-Choice-1, else-is_empty+in-Some+in-Sequence-1, else-is_empty+in-Some+in-Star-1, else-is_empty+in-Some+in-Empty-1, else-is_empty+in-None-1}

pub loop-row-init : goal.loop-row-init
loop-row-init c = record { sizes = search rules; stood = stood_none c.new-parts.result.items c.new-parts.ensures.items }

pub loop-row-preserved : goal.loop-row-preserved
loop-row-preserved c =
    let ys : List Row = map (λ r. r.now) c.loop-row.yielded in
    let g = grow c.in-Some.row.now (reverse ys) c.loop-row.parts.items c.grown.new.parts.items c.in-Some-2.tree c.loop-row.invariant.stood (λ t b rest e s. at_some c.in_ok-tree.field-0 c.in-Some-2.tree _ c.in-Some-2.is (c.in_ok-tree.ensures.tree t b rest e s)) in
    let more : reverse (map (λ r. r.now) (c.loop-row.yielded ++ c.in-Some.row ∷ [])) ≡ c.in-Some.row.now ∷ reverse ys = ap reverse (map-append (λ r. r.now) c.loop-row.yielded (c.in-Some.row ∷ [])) ∙ turned_more ys c.in-Some.row.now in
    record {
      sizes = sizes_more c.push.new.self.items c.grown.new.parts.items c.in-Some-2.tree (length c.loop-row.yielded) (length (c.loop-row.yielded ++ c.in-Some.row ∷ [])) c.in_ok-push-in-Some-2.ensures.items
          (if_some c.in_ok-tree.field-0 c.in-Some-2.tree (λ x. size x + sum_by size c.grown.new.parts.items ≡ 1 + length c.loop-row.yielded) c.in-Some-2.is (rw (← c.loop-row.invariant.sizes) c.in_ok-tree.ensures.size)) (length-append c.loop-row.yielded (c.in-Some.row ∷ []));
      stood = λ us e. ap stacked c.in_ok-push-in-Some-2.ensures.items ∙ g us (sym more ∙ e);
    }

pub returns-in-None-2-clause-tree : goal.returns-in-None-2-clause-tree
returns-in-None-2-clause-tree c t o =
    let ys : List Row = map (λ r. r.now) c.loop-row.yielded in
    let far = YieldsList-so_far (YieldsList-from_rev_slice c.args.rows.now cc) c.loop-row.yielded _ c.loop-row.yielded_by in
    let turn = YieldsList-turn (YieldsList-from_rev_slice c.args.rows.now cc) c.loop-row.yielded _ c.loop-row.yielded_by _ _ c.in-Some.row c.in-Some.is c.next.ensures.steps in
    let cut = turned c.args.rows.now ys (length c.loop-row.yielded) c.in-Some.row.now far turn.0 turn.1 in
    never t c.args.rows.now cut.0 c.in-Some.row.now (reverse ys) c.loop-row.parts.items o cut.1 c.loop-row.invariant.stood (λ s b rest e f. at_none c.in_ok-tree.field-0 _ c.in-None-2.is (c.in_ok-tree.ensures.tree s b rest e f))

pub returns-clause-tree : goal.returns-clause-tree
returns-clause-tree c t o =
    let end = YieldsList-end (YieldsList-from_rev_slice c.args.rows.now cc) c.loop-row.yielded _ c.loop-row.yielded_by _ _ c.in-None.is c.next.ensures.steps in
    let all : Stood c.args.rows.now c.loop-row.parts.items = λ us e. c.loop-row.invariant.stood us (ap reverse end.0 ∙ reverse-reverse c.args.rows.now ∙ e) in
    let last = popped _ _ t c.args.rows.now c.loop-row.parts.items c.pop-tree.new.self.items c.pop-tree.result (vec_len c.loop-row.parts) o all c.pop-tree.ensures.items (search rules) c.pop-tree.ensures.cases in
    let none : vec_len c.pop-tree.new.self ≡ 0 = omega (arith, last.1, c.pop-tree.new.self.ok.0) in
    let no : c.is_empty.result ≡ false → ⊥ = λ f. grind (arith, nat_tests, f, none, c.is_empty.ensures) in
    elim c.if-is_empty.branch [
      | then-is_empty w ↦ rw w.result-is last.0
      | else-is_empty+in-Some+in-Choice-1 w ↦ absurd (no w.if-is_empty.false)
      | else-is_empty+in-Some+in-Sequence-1 w ↦ absurd (no w.if-is_empty.false)
      | else-is_empty+in-Some+in-Star-1 w ↦ absurd (no w.if-is_empty.false)
      | else-is_empty+in-Some+in-Empty-1 w ↦ absurd (no w.if-is_empty.false)
      | else-is_empty+in-None-1 w ↦ absurd (no w.if-is_empty.false)
    ]
