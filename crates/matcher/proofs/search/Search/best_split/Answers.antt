use Rattle.std.proofs.Common.{ℕ, ◌+◌, ◌-◌, Some, get_or, take, sym, refl, subst, ap, ◌∙◌, arith}
use Rattle.matcher.specs.declared.frame.Spot.{Spot}
use Rattle.matcher.specs.declared.ranking.Leader.TheVariants.{Alone}
use Rattle.matcher.specs.Leaders.{best_code, BestShown}
use Rattle.matcher.specs.Searches.{word, BestBelowAt, CodedAt}
use Rattle.matcher.proofs.Chosen.{choosing_none, choosing_skip, choosing_first, choosing_next, chosen}
use Rattle.matcher.proofs.Turns.{left_all, turn_from, turn_below, turn_next, turn_left, turns_over}
use Rattle.matcher.proofs.search.Search.best_split.Goals as goal

pub loop-k-init : goal.loop-k-init
loop-k-init g c =
    let d = choosing_none (g.P.Policy.above c.args.self.now.policy.now) (g.met.P.Policy.decided c.args.self.now.policy.now) (g.met.P.Policy.replaced c.args.self.now.policy.now) c.args.self.now.frame (word c.args.self.now) c.args.spot c.requires.on c.args.bench.now c.requires.ready c.into_iter-k-iterator.result.start c.into_iter-k-iterator.result.end (rw c.into_iter-k-iterator.ensures.into_iter_gives (rw (c.parts.ensures.first, c.parts.ensures.second) at c.splits-splits.ensures)) (take (get_or c.args.self.now.frame.sizes c.args.spot.node 0) c.args.pad.now.best) in
    (left_all c.into_iter-k-iterator.result, d.0, d.1)

pub loop-k-preserved-in-Some-best : goal.loop-k-preserved-in-Some-best
loop-k-preserved-in-Some-best g c =
    let P : ℕ → Type 0 = λ k. BestBelowAt (g.P.Policy.above c.args.self.now.policy.now) c.args.self.now.frame (word c.args.self.now) c.args.bench.now c.args.spot k (best_code c.loop-k.best) × BestShown c.args.self.now.frame c.args.bench.now c.args.spot c.loop-k.best (take (get_or c.args.self.now.frame.sizes c.args.spot.node 0) c.loop-k.pad.best) in
    let Q : ℕ → Type 0 = λ k. BestBelowAt (g.P.Policy.above c.args.self.now.policy.now) c.args.self.now.frame (word c.args.self.now) c.args.bench.now c.args.spot k (best_code (Some c.better.result)) × BestShown c.args.self.now.frame c.args.bench.now c.args.spot (Some c.better.result) (take (get_or c.args.self.now.frame.sizes c.args.spot.node 0) c.better.new.pad.best) in
    let d = subst Q (turn_next c.into_iter-k-iterator.ensures.into_iter_gives c.loop-k.invariant.0 c.in-Some.ensures.steps) (choosing_next (g.P.Policy.above c.args.self.now.policy.now) (g.met.P.Policy.decided c.args.self.now.policy.now) (g.met.P.Policy.replaced c.args.self.now.policy.now) c.args.self.now.frame (word c.args.self.now) c.args.spot c.requires.on c.args.bench.now c.requires.ready c.in-Some.k c.loop-k.best (Some c.better.result) c.in-Some-best.leader c.better.result (take (get_or c.args.self.now.frame.sizes c.args.spot.node 0) c.loop-k.pad.best) (take (get_or c.args.self.now.frame.sizes c.args.spot.node 0) c.better.new.pad.best)
    (omega (arith, turn_from c.into_iter-k-iterator.ensures.into_iter_gives c.loop-k.invariant.0 c.in-Some.ensures.steps, c.splits-splits.ensures.from, ap (λ (s : Spot). s.start) c.parts.ensures.first)) (omega (arith, turn_below c.into_iter-k-iterator.ensures.into_iter_gives c.loop-k.invariant.0 c.in-Some.ensures.steps, c.splits-splits.ensures.to, ap (λ (s : Spot). s.end) c.parts.ensures.first)) (rw (c.front.ensures, c.back.ensures, c.parts.ensures.first, c.parts.ensures.second) at (c.both_coded.ensures.yes c.if-both_coded.true)) c.in-Some-best.is refl c.better.ensures.either c.better.ensures.ranked c.better.ensures.shown (subst P (sym c.in-Some.ensures.steps.1.1) (c.loop-k.invariant.1, c.loop-k.invariant.2))) in
    (turn_left c.into_iter-k-iterator.ensures.into_iter_gives c.loop-k.invariant.0 c.in-Some.ensures.steps, d.0, d.1)

pub loop-k-preserved-in-None-best : goal.loop-k-preserved-in-None-best
loop-k-preserved-in-None-best g c =
    let P : ℕ → Type 0 = λ k. BestBelowAt (g.P.Policy.above c.args.self.now.policy.now) c.args.self.now.frame (word c.args.self.now) c.args.bench.now c.args.spot k (best_code c.loop-k.best) × BestShown c.args.self.now.frame c.args.bench.now c.args.spot c.loop-k.best (take (get_or c.args.self.now.frame.sizes c.args.spot.node 0) c.loop-k.pad.best) in
    let Q : ℕ → Type 0 = λ k. BestBelowAt (g.P.Policy.above c.args.self.now.policy.now) c.args.self.now.frame (word c.args.self.now) c.args.bench.now c.args.spot k (best_code (Some (Alone (c.in-Some.k - c.args.spot.start + 1)))) × BestShown c.args.self.now.frame c.args.bench.now c.args.spot (Some (Alone (c.in-Some.k - c.args.spot.start + 1))) (take (get_or c.args.self.now.frame.sizes c.args.spot.node 0) c.loop-k.pad.best) in
    let d = subst Q (turn_next c.into_iter-k-iterator.ensures.into_iter_gives c.loop-k.invariant.0 c.in-Some.ensures.steps) (choosing_first (g.P.Policy.above c.args.self.now.policy.now) (g.met.P.Policy.decided c.args.self.now.policy.now) (g.met.P.Policy.replaced c.args.self.now.policy.now) c.args.self.now.frame (word c.args.self.now) c.args.spot c.requires.on c.args.bench.now c.requires.ready c.in-Some.k c.loop-k.best (Some (Alone (c.in-Some.k - c.args.spot.start + 1))) (take (get_or c.args.self.now.frame.sizes c.args.spot.node 0) c.loop-k.pad.best)
    (omega (arith, turn_from c.into_iter-k-iterator.ensures.into_iter_gives c.loop-k.invariant.0 c.in-Some.ensures.steps, c.splits-splits.ensures.from, ap (λ (s : Spot). s.start) c.parts.ensures.first)) (omega (arith, turn_below c.into_iter-k-iterator.ensures.into_iter_gives c.loop-k.invariant.0 c.in-Some.ensures.steps, c.splits-splits.ensures.to, ap (λ (s : Spot). s.end) c.parts.ensures.first)) (rw (c.front.ensures, c.back.ensures, c.parts.ensures.first, c.parts.ensures.second) at (c.both_coded.ensures.yes c.if-both_coded.true)) c.in-None-best.is refl (subst P (sym c.in-Some.ensures.steps.1.1) (c.loop-k.invariant.1, c.loop-k.invariant.2))) in
    (turn_left c.into_iter-k-iterator.ensures.into_iter_gives c.loop-k.invariant.0 c.in-Some.ensures.steps, d.0, d.1)

pub loop-k-preserved : goal.loop-k-preserved
loop-k-preserved g c =
    let P : ℕ → Type 0 = λ k. BestBelowAt (g.P.Policy.above c.args.self.now.policy.now) c.args.self.now.frame (word c.args.self.now) c.args.bench.now c.args.spot k (best_code c.loop-k.best) × BestShown c.args.self.now.frame c.args.bench.now c.args.spot c.loop-k.best (take (get_or c.args.self.now.frame.sizes c.args.spot.node 0) c.loop-k.pad.best) in
    let d = subst P (turn_next c.into_iter-k-iterator.ensures.into_iter_gives c.loop-k.invariant.0 c.in-Some.ensures.steps) (choosing_skip (g.P.Policy.above c.args.self.now.policy.now) (g.met.P.Policy.decided c.args.self.now.policy.now) (g.met.P.Policy.replaced c.args.self.now.policy.now) c.args.self.now.frame (word c.args.self.now) c.args.spot c.requires.on c.args.bench.now c.requires.ready c.in-Some.k c.loop-k.best c.loop-k.best (take (get_or c.args.self.now.frame.sizes c.args.spot.node 0) c.loop-k.pad.best)
    (omega (arith, turn_below c.into_iter-k-iterator.ensures.into_iter_gives c.loop-k.invariant.0 c.in-Some.ensures.steps, c.splits-splits.ensures.to, ap (λ (s : Spot). s.end) c.parts.ensures.first)) (rw (c.front.ensures, c.back.ensures, c.parts.ensures.first, c.parts.ensures.second) at (c.both_coded.ensures.no c.if-both_coded.false)) refl (subst P (sym c.in-Some.ensures.steps.1.1) (c.loop-k.invariant.1, c.loop-k.invariant.2))) in
    (turn_left c.into_iter-k-iterator.ensures.into_iter_gives c.loop-k.invariant.0 c.in-Some.ensures.steps, d.0, d.1)

pub unreachable-requires : goal.unreachable-requires
unreachable-requires g c =
    let d = chosen (g.P.Policy.above c.args.self.now.policy.now) (g.met.P.Policy.decided c.args.self.now.policy.now) (g.met.P.Policy.replaced c.args.self.now.policy.now) c.args.self.now.frame (word c.args.self.now) c.args.spot c.requires.on c.args.bench.now c.requires.ready c.splits-splits.result.start c.splits-splits.result.end c.loop-k.k-iterator.start c.loop-k.best (take (get_or c.args.self.now.frame.sizes c.args.spot.node 0) c.loop-k.pad.best) (rw (c.parts.ensures.first, c.parts.ensures.second) at c.splits-splits.ensures) (turns_over c.into_iter-k-iterator.ensures.into_iter_gives c.loop-k.invariant.0 c.in-None.ensures.steps) c.requires.kind (c.loop-k.invariant.1, c.loop-k.invariant.2) in
    omega (arith, d.some, ap best_code c.in-None-best-2.is)

pub returns : goal.returns
returns g c =
    let P : ℕ → Type 0 = λ r. CodedAt (g.P.Policy.above c.args.self.now.policy.now) c.args.self.now.frame (word c.args.self.now) c.args.bench.now c.args.spot r in
    subst P (ap best_code c.in-Some-best-2.is ∙ sym c.code.ensures) (chosen (g.P.Policy.above c.args.self.now.policy.now) (g.met.P.Policy.decided c.args.self.now.policy.now) (g.met.P.Policy.replaced c.args.self.now.policy.now) c.args.self.now.frame (word c.args.self.now) c.args.spot c.requires.on c.args.bench.now c.requires.ready c.splits-splits.result.start c.splits-splits.result.end c.loop-k.k-iterator.start c.loop-k.best (take (get_or c.args.self.now.frame.sizes c.args.spot.node 0) c.loop-k.pad.best) (rw (c.parts.ensures.first, c.parts.ensures.second) at c.splits-splits.ensures) (turns_over c.into_iter-k-iterator.ensures.into_iter_gives c.loop-k.invariant.0 c.in-None.ensures.steps) c.requires.kind (c.loop-k.invariant.1, c.loop-k.invariant.2))
