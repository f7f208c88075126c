use Rattle.std.proofs.Common.{refl, arith}
use Rattle.text.proofs.Bytes.{signed_near, signed_read}
use Rattle.text.proofs.readers.Reader.sign.Goals as goal

pub overflow_sub-self : goal.overflow_sub-self
overflow_sub-self c = omega (arith, signed_near c.in_ok-sign.sign c.args.self.now.text.now c.in_ok-sign.rest.now c.args.self.now.at (omega arith) c.in_ok-sign.ensures)

pub invariant_of-self : goal.invariant_of-self
invariant_of-self c = omega (arith, signed_near c.in_ok-sign.sign c.args.self.now.text.now c.in_ok-sign.rest.now c.args.self.now.at (omega arith) c.in_ok-sign.ensures)

pub returns : goal.returns
returns c = (record { text = refl; count = refl; rows = refl }, omega (arith, signed_near c.in_ok-sign.sign c.args.self.now.text.now c.in_ok-sign.rest.now c.args.self.now.at (omega arith) c.in_ok-sign.ensures), signed_read c.in_ok-sign.sign c.args.self.now.text.now c.in_ok-sign.rest.now c.args.self.now.at (omega arith) c.in_ok-sign.ensures)
