use Rattle.std.proofs.Common.{◌≤◌, true, false, length, sym, ap, arith}
use lib.Bits.{bit_or, or_zero_r}
use Rattle.std.proofs.lemmas.Nat.{one_shl}
use Rattle.rules.specs.Languages.{Sight}
use Rattle.positions.specs.SetsOf.{kept_leaves}
use Rattle.positions.proofs.Loops.{held_front, held_past, holders_turn, holders_end}
use Rattle.positions.proofs.sets.Positions.holders.Goals as goal
use Rattle.positions.proofs.sets.Positions.holders.Goals.{else-p-self-via-then-p-self+else-holds, else-p-self-via-else-p-self}

pub loop-p-preserved-then-holds : goal.loop-p-preserved-then-holds
loop-p-preserved-then-holds g c =
    let all = c.args.self.now.leaves in
    let count = c.args.self.now.count in
    let p = c.in-Some.p in
    let s : Sight = λ lo hi. g.A.Alphabet.held c.args.alphabet.now lo hi c.args.symbol.now in
    let few : count ≤ length all = omega (arith, c.args.self.now.few) in (
      tt,
      tt,
      holders_turn (kept_leaves c.args.self.now) s c.args.set c.loop-p.held _ c.loop-p.p-iterator.0 p c.next.new.self.0 true c.in-Some.ensures.steps.1
          (held_front all s count p true few c.if-p-self.true c.if-holds.ensures) (ap (bit_or c.loop-p.held) (one_shl p 32 c.in-Some.ensures.steps.0)) c.loop-p.invariant.2,
    )

pub loop-p-preserved : goal.loop-p-preserved
loop-p-preserved g c =
    let all = c.args.self.now.leaves in
    let count = c.args.self.now.count in
    let p = c.in-Some.p in
    let s : Sight = λ lo hi. g.A.Alphabet.held c.args.alphabet.now lo hi c.args.symbol.now in
    let few : count ≤ length all = omega (arith, c.args.self.now.few) in (
      tt,
      tt,
      holders_turn (kept_leaves c.args.self.now) s c.args.set c.loop-p.held _ c.loop-p.p-iterator.0 p c.next.new.self.0 false c.in-Some.ensures.steps.1
          (elim c.else-p-self.branch [
            | else-p-self-via-then-p-self+else-holds w ↦ held_front all s count p false few w.if-p-self.true w.if-holds.ensures
            | else-p-self-via-else-p-self w ↦ held_past all s count p few w.if-p-self.false
          ]) (sym (or_zero_r c.loop-p.held)) c.loop-p.invariant.2,
    )

pub returns : goal.returns
returns g c =
    holders_end (kept_leaves c.args.self.now) (λ lo hi. g.A.Alphabet.held c.args.alphabet.now lo hi c.args.symbol.now) c.args.set c.loop-p.held c.loop-p.p-iterator.0 c.in-None.ensures.steps.0 c.loop-p.invariant.2
