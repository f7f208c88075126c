use Rattle.std.proofs.Common.{arith}
use Rattle.std.proofs.lemmas.Bool.Decides.{nat_tests}
use Rattle.text.specs.Signs.{stops_empty, stops_close, stops_bar}
use Rattle.text.proofs.Bytes.{past, not_past, there, there_back, stops_at, stops_from}
use Rattle.text.proofs.sign.stops_at.Goals as goal

pub returns-in-None-clause-yes : goal.returns-in-None-clause-yes
returns-in-None-clause-yes c = λ _. stops_at (past c.args.text.now c.args.at c.in-None.ensures.lookup.3) stops_empty

pub returns-then-byte-eq41-clause-yes : goal.returns-then-byte-eq41-clause-yes
returns-then-byte-eq41-clause-yes c = λ _. let h = c.in-Some.ensures.lookup in stops_at (there c.args.text.now c.args.at 41 h.3.0 (omega (arith, h.4 (omega arith) 0))) stops_close

pub returns-else-byte-eq41-clause-yes : goal.returns-else-byte-eq41-clause-yes
returns-else-byte-eq41-clause-yes c = λ e. let h = c.in-Some.ensures.lookup in stops_at (there c.args.text.now c.args.at 124 h.3.0 (grind (arith, h.4 (omega arith) 0, nat_tests, e))) stops_bar

pub returns-else-byte-eq41-clause-no : goal.returns-else-byte-eq41-clause-no
returns-else-byte-eq41-clause-no c = λ e s.
    let h = c.in-Some.ensures.lookup in
    stops_from s (not_past c.args.text.now c.args.at h.3.0)
    (λ z f. omega (arith, h.4 (omega arith) 0, there_back c.args.text.now z c.args.at 41 h.3.0 f))
    (λ z f. grind (arith, h.4 (omega arith) 0, there_back c.args.text.now z c.args.at 124 h.3.0 f, nat_tests, e))
