use Rattle.std.proofs.Common.{◌≡◌, vec_len, ap, ◌∙◌, arith}
use Rattle.cases.proofs.lister.Found.add_each.Goals as goal

pub loop-right-preserved : goal.loop-right-preserved
loop-right-preserved c m n e r s =
    let len : vec_len c.right-item.result ≡ m = ap vec_len c.right-item.is ∙ r c.loop-right.right-index c.right-item.result c.loop-right-test.true in
    c.in_ok-add.ensures n (omega (arith, c.deref.ensures.len)) (c.loop-right.invariant m n e r s)
