use Rattle.std.proofs.Common.{◌≡◌, vec_len, ap, ◌∙◌, arith}
use Rattle.cases.proofs.lister.Found.add_all.Goals as goal

pub loop-left-preserved : goal.loop-left-preserved
loop-left-preserved c k m n e l r s =
    let len : vec_len c.left-item.result ≡ k = ap vec_len c.left-item.is ∙ l c.loop-left.left-index c.left-item.result c.loop-left-test.true in
    c.in_ok-add_each.ensures m n (omega (arith, c.deref.ensures.len)) r (c.loop-left.invariant k m n e l r s)
