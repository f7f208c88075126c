use Rattle.std.proofs.Common.{rules, ◌≡◌, get_or, inl, inr, ap, arith}
use Rattle.std.proofs.lemmas.Bool.Decides.{nat_tests}
use Rattle.rules.specs.Alphabets.{bytes_held}
use Rattle.rules.specs.Trees.{sequence}
use Rattle.cases.specs.Names.{ruled}
use Rattle.cases.proofs.Names.{empty_names, leaf_one, choice_names, sequence_names, star_names, told}
use Rattle.cases.proofs.tree.Tree.+membership.Goals as goal

pub has-returns-in-Sequence : goal.has-returns-in-Sequence
has-returns-in-Sequence t c =
    let e : ruled c.args.self.now ≡ sequence (ruled c.deref-in-Sequence.result.now) (ruled c.deref-in-Sequence-2.result.now) = rw (c.deref-in-Sequence.ensures, c.deref-in-Sequence-2.ensures) (ap ruled c.in-Sequence.is) in
    told c.has_before.ensures (sequence_names _ _ c.args.self.now c.args.word.now e)

pub has-returns-in-Empty : goal.has-returns-in-Empty
has-returns-in-Empty t c =
    let n = empty_names c.args.word.now in
    rw (c.in-Empty.is, c.is_empty.ensures) ((λ h. n.0 (grind (arith, nat_tests, h))), λ h. let l = n.1 h in grind (arith, nat_tests, l))

pub has-returns-in-len1 : goal.has-returns-in-len1
has-returns-in-len1 t c =
    let n = leaf_one c.in-Leaf.lo c.in-Leaf.hi c.args.self.now c.args.word.now c.in-Leaf.is (omega arith) (omega arith) in
    let r : c.contains.result ≡ bytes_held c.in-Leaf.lo c.in-Leaf.hi (get_or c.args.word.now 0 0) = search rules in
    rw r n

pub has-returns-then-has : goal.has-returns-then-has
has-returns-then-has t c =
    let d : ruled c.deref.result.now ≡ ruled c.in-Choice.p.value = ap ruled c.deref.ensures in
    let n = choice_names c.deref.result.now c.in-Choice.q.value c.args.self.now c.args.word.now (rw d (ap ruled c.in-Choice.is)) in
    ((λ h. n.0 (inl (c.has.ensures.0 h))), λ h. c.if-has.true)

pub has-returns-else-has : goal.has-returns-else-has
has-returns-else-has t c =
    let n = choice_names c.deref.result.now c.deref-else-has.result.now c.args.self.now c.args.word.now (rw (c.deref.ensures, c.deref-else-has.ensures) (ap ruled c.in-Choice.is)) in
    ((λ h. n.0 (inr (c.has-else-has.ensures.0 h))), λ h. elim (n.1 h) [ inl a ↦ absurd (grind (arith, c.has.ensures.1 a, c.if-has.false)) | inr b ↦ c.has-else-has.ensures.1 b ])

pub has-returns-then-is_empty : goal.has-returns-then-is_empty
has-returns-then-is_empty t c =
    let n = star_names c.in-Star.p.value c.args.self.now c.args.word.now (ap ruled c.in-Star.is) in
    ((λ h. n.0 (inl (grind (arith, nat_tests, h, c.is_empty-in-Star.ensures)))), λ h. c.if-is_empty.true)

pub has-returns-else-is_empty : goal.has-returns-else-is_empty
has-returns-else-is_empty t c =
    let n = star_names c.deref-else-is_empty.result.now c.args.self.now c.args.word.now (rw c.deref-else-is_empty.ensures (ap ruled c.in-Star.is)) in
    let b = c.has_before-else-is_empty.ensures in
    ((λ h. n.0 (inr (b.0 h))), λ h. elim (n.1 h) [ inl e ↦ absurd (grind (arith, nat_tests, e, c.if-is_empty.false, c.is_empty-in-Star.ensures)) | inr m ↦ b.1 m ])
