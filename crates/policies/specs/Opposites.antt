-- The order turned round keeps both laws.
use Rattle.std.proofs.Common.{sym}
use Rattle.policies.specs.Orders.{Order, Decided, Replaced, opposite}

pub opposite_decided : (above : Order) → Decided above → Decided (opposite above)
opposite_decided above d = record {
  one = λ t few n s b w i j x y rx ry ne. d.one t few n s b w i j y x ry rx (λ e. ne (sym e));
  not_both = λ t few n s b w i j x y rx ry. d.not_both t few n s b w i j y x ry rx;
  carries = λ t few n s b w i j x y z rx ry rz h k. d.carries t few n s b w i j z y x rz ry rx k h;
}

pub opposite_replaced : (above : Order) → Replaced above → Replaced (opposite above)
opposite_replaced above r = record {
  choice_first = λ t few n p q b w i j x y rx ry. r.choice_first t few n p q b w i j y x ry rx;
  choice_second = λ t few n p q b w i j x y rx ry. r.choice_second t few n p q b w i j y x ry rx;
  sequence_first = λ t few n p q b w i k j x y z rx ry rz. r.sequence_first t few n p q b w i k j y x z ry rx rz;
  sequence_second = λ t few n p q b w i k j z x y rz rx ry. r.sequence_second t few n p q b w i k j z y x rz ry rx;
}
