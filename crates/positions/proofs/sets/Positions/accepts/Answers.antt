use Rattle.std.proofs.Common.{◌≡◌, ◌-◌, ◌<◌, length, take, drop, arith}
use Rattle.std.proofs.lemmas.List.{take_rest}
use Rattle.std.proofs.lemmas.Bool.{ltb-true, ltb-false}
use Rattle.positions.proofs.Running.{run_none, run_turn, run_end, run_stuck}
use Rattle.positions.proofs.sets.Positions.accepts.Goals as goal

pub returns-in_default : goal.returns-in_default
returns-in_default g c t h =
    let none : length c.args.name.now ≡ 0 = omega (arith, ltb-true, ltb-false) in
    run_none (g.A.Alphabet.held c.args.alphabet.now) t c.args.self.now h c.args.name.now none

pub loop-symbol-preserved : goal.loop-symbol-preserved
loop-symbol-preserved g c t h =
    let name = c.args.name.now in
    run_turn (g.A.Alphabet.held c.args.alphabet.now) t c.args.self.now h (take (length name - 1) (drop 1 name)) c.loop-symbol.symbol-index c.loop-symbol.set c.step-set.result
    c.holders-set.result c.symbol-item-in-loop-symbol.result c.loop-symbol-test.true c.symbol-item-in-loop-symbol.is (c.step-set.ensures t h) (c.loop-symbol.invariant t h)

pub returns-then-set-eq0 : goal.returns-then-set-eq0
returns-then-set-eq0 g c t h =
    let name = c.args.name.now in
    let some : 0 < length c.args.name.now = omega (arith, ltb-true, ltb-false) in
    run_stuck (g.A.Alphabet.held c.args.alphabet.now) t c.args.self.now h name (take (length name - 1) (drop 1 name)) c.loop-symbol.symbol-index c.loop-symbol.set c.holders-set.result
    c.symbol-item.result some c.symbol-item.is (take_rest name 1) c.holders-set.ensures (c.loop-symbol.invariant t h) c.if-set-eq0.true

pub returns : goal.returns
returns g c t h =
    let name = c.args.name.now in
    let some : 0 < length c.args.name.now = omega (arith, ltb-true, ltb-false) in
    run_end (g.A.Alphabet.held c.args.alphabet.now) t c.args.self.now h name (take (length name - 1) (drop 1 name)) c.loop-symbol.symbol-index c.loop-symbol.set c.holders-set.result
    c.symbol-item.result some c.symbol-item.is (take_rest name 1) c.loop-symbol-test.false c.holders-set.ensures (c.loop-symbol.invariant t h)
