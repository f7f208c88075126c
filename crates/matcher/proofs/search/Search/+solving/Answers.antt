use Rattle.std.proofs.Common.{ℕ, sym, ap, ◌∙◌, subst, arith}
use Rattle.matcher.specs.declared.frame.Spot.{Spot}
use Rattle.matcher.specs.Frames.{frame_rows}
use Rattle.matcher.specs.Searches.{word, PresentAt, PreparedAt, GotAt}
use Rattle.matcher.specs.Leaders.{leader_code}
use Rattle.matcher.proofs.Marks.{room_kept}
use Rattle.matcher.proofs.Firm.{right_told, right_both}
use Rattle.matcher.proofs.KindNumbers.{no_pair}
use Rattle.matcher.proofs.Words.{word_long}
use Rattle.matcher.proofs.Alone.{alone_got}
use Rattle.matcher.proofs.Solutions.{present_second, got_second, got_first, got_better, prepared_none, prepared_all, prepared_skip, prepared_solved, ready_at, settled_put}
use Rattle.matcher.proofs.SpotParts.{first_part, second_part, part_sought, told_sought}
use Rattle.matcher.proofs.Turns.{left_all, turn_from, turn_below, turn_next, turn_left, turns_over}
use Rattle.matcher.proofs.search.Search.+solving.Goals as goal

pub best_code-best_split-requires-clause-ready : goal.best_code-best_split-requires-clause-ready
best_code-best_split-requires-clause-ready g t c = ready_at (g.P.Policy.above c.args.self.now.policy.now) c.args.self.now.frame (word c.args.self.now) c.args.spot c.requires.sought.on (word_long c.args.self.now) c.args.bench.now c.solve_splits.new.bench c.requires.present c.solve_splits.ensures

pub best_code-returns-in-Empty : goal.best_code-returns-in-Empty
best_code-returns-in-Empty g t c =
    let none = no_pair _ _ c.kind.ensures c.in-Empty.is in
    alone_got (g.P.Policy.above c.args.self.now.policy.now) (frame_rows c.args.self.now.frame) (word c.args.self.now) c.args.self.now.frame.symbols c.args.bench.now c.args.spot.node c.args.spot.start c.args.spot.end c.requires.sought.on.start c.requires.sought.on.end (word_long c.args.self.now) none.0 none.1 c.requires.present c.requires.sought.right

pub best_part-returns-then-not-has : goal.best_part-returns-then-not-has
best_part-returns-then-not-has g t c = got_second (g.P.Policy.above c.args.self.now.policy.now) c.args.self.now.frame (word c.args.self.now) c.args.spot c.requires.sought.on (g.met.P.Policy.decided c.args.self.now.policy.now) (g.met.P.Policy.replaced c.args.self.now.policy.now) c.requires.kind c.args.bench.now c.has.new.bench c.solve.new.bench c.has.result c.if-not-has.true (rw c.parts.ensures.first at c.has.ensures) (rw c.parts.ensures.second at c.solve.ensures)

pub best_part-returns-then-not-has-2 : goal.best_part-returns-then-not-has-2
best_part-returns-then-not-has-2 g t c = got_first (g.P.Policy.above c.args.self.now.policy.now) c.args.self.now.frame (word c.args.self.now) c.args.spot c.requires.sought.on (g.met.P.Policy.decided c.args.self.now.policy.now) (g.met.P.Policy.replaced c.args.self.now.policy.now) c.requires.kind c.args.bench.now c.has.new.bench c.has-2.new.bench c.solve-then-not-has-2.new.bench c.has.result c.has-2.result c.if-not-has-2.true (rw c.parts.ensures.first at c.has.ensures) (rw c.parts.ensures.second at c.has-2.ensures) (rw c.parts.ensures.first at c.solve-then-not-has-2.ensures)

pub best_part-returns : goal.best_part-returns
best_part-returns g t c =
    let P : ℕ → Type 0 = λ r. GotAt (g.P.Policy.above c.args.self.now.policy.now) c.args.self.now.frame (word c.args.self.now) c.args.bench.now c.solve-3.new.bench c.args.spot r in
    subst P (sym c.code.ensures) (got_better (g.P.Policy.above c.args.self.now.policy.now) c.args.self.now.frame (word c.args.self.now) c.args.spot c.requires.sought.on (g.met.P.Policy.decided c.args.self.now.policy.now) (g.met.P.Policy.replaced c.args.self.now.policy.now) c.requires.kind c.args.bench.now c.has.new.bench c.has-2.new.bench c.solve-2.new.bench c.solve-3.new.bench c.has.result c.has-2.result (rw c.parts.ensures.first at c.has.ensures) (rw c.parts.ensures.second at c.has-2.ensures) (rw c.parts.ensures.first at c.solve-2.ensures) (rw c.parts.ensures.second at c.solve-3.ensures) (leader_code c.better.result) c.better.ensures.either c.better.ensures.ranked)

pub best_part-solve-requires : goal.best_part-solve-requires
best_part-solve-requires g t c κs within =
    let part = second_part c.args.self.now.frame c.args.spot c.parts.result.1 c.parts.ensures.second c.parts.ensures.within in (
      omega (arith, c.decreases, c.requires.sought.on.node, part.above, part.inside, part.start, part.end),
      (within.0, (within.1.0, (within.1.1, (part_sought (g.P.Policy.above c.args.self.now.policy.now) c.args.self.now.frame (word c.args.self.now) c.has.new.bench c.args.spot c.parts.result.1 part c.requires.sought.on (room_kept _ _ c.args.bench.now c.has.new.bench c.has.auto.bench c.requires.sought.laid) (right_told (g.P.Policy.above c.args.self.now.policy.now) (frame_rows c.args.self.now.frame) (word c.args.self.now) c.args.self.now.frame.symbols c.args.bench.now c.has.new.bench c.parts.result.0.node c.parts.result.0.start c.parts.result.0.end c.has.result c.requires.sought.right c.has.ensures), subst (λ (x : Spot). PresentAt c.args.self.now.frame (word c.args.self.now) x) (sym c.parts.ensures.second) (present_second (g.P.Policy.above c.args.self.now.policy.now) c.args.self.now.frame (word c.args.self.now) c.args.spot c.requires.sought.on (g.met.P.Policy.decided c.args.self.now.policy.now) (g.met.P.Policy.replaced c.args.self.now.policy.now) c.requires.kind c.args.bench.now c.has.new.bench c.has.result c.requires.present c.if-not-has.true (rw c.parts.ensures.first at c.has.ensures)))))),
    )

pub best_part-solve-requires-then-not-has-2 : goal.best_part-solve-requires-then-not-has-2
best_part-solve-requires-then-not-has-2 g t c κs within =
    let part = first_part c.args.self.now.frame c.args.spot c.parts.result.0 c.parts.ensures.first c.parts.ensures.within in (
      omega (arith, c.decreases, c.requires.sought.on.node, part.above, part.inside, part.start, part.end),
      (within.0, (within.1.0, (within.1.1, (told_sought (g.P.Policy.above c.args.self.now.policy.now) c.args.self.now.frame (word c.args.self.now) c.args.bench.now c.has.new.bench c.has-2.new.bench c.args.spot c.parts.result.0 c.parts.result.1 c.has.result c.has-2.result part c.requires.sought.on (room_kept _ _ c.args.bench.now c.has-2.new.bench (c.has-2.auto.bench ∙ c.has.auto.bench) c.requires.sought.laid) c.requires.sought.right c.has.ensures c.has-2.ensures, λ s h. (c.has.ensures.says s h).has c.if-not-has.false)))),
    )

pub best_part-solve-requires-2 : goal.best_part-solve-requires-2
best_part-solve-requires-2 g t c κs within =
    let part = first_part c.args.self.now.frame c.args.spot c.parts.result.0 c.parts.ensures.first c.parts.ensures.within in (
      omega (arith, c.decreases, c.requires.sought.on.node, part.above, part.inside, part.start, part.end),
      (within.0, (within.1.0, (within.1.1, (told_sought (g.P.Policy.above c.args.self.now.policy.now) c.args.self.now.frame (word c.args.self.now) c.args.bench.now c.has.new.bench c.has-2.new.bench c.args.spot c.parts.result.0 c.parts.result.1 c.has.result c.has-2.result part c.requires.sought.on (room_kept _ _ c.args.bench.now c.has-2.new.bench (c.has-2.auto.bench ∙ c.has.auto.bench) c.requires.sought.laid) c.requires.sought.right c.has.ensures c.has-2.ensures, λ s h. (c.has.ensures.says s h).has c.if-not-has.false)))),
    )

pub best_part-solve-requires-3 : goal.best_part-solve-requires-3
best_part-solve-requires-3 g t c κs within =
    let part = second_part c.args.self.now.frame c.args.spot c.parts.result.1 c.parts.ensures.second c.parts.ensures.within in (
      omega (arith, c.decreases, c.requires.sought.on.node, part.above, part.inside, part.start, part.end),
      (within.0, (within.1.0, (within.1.1, (part_sought (g.P.Policy.above c.args.self.now.policy.now) c.args.self.now.frame (word c.args.self.now) c.solve-2.new.bench c.args.spot c.parts.result.1 part c.requires.sought.on (room_kept _ _ c.args.bench.now c.solve-2.new.bench (c.solve-2.auto.bench ∙ c.has-2.auto.bench ∙ c.has.auto.bench) c.requires.sought.laid) (c.solve-2.ensures.right), λ s h. (c.has-2.ensures.says s h).has c.if-not-has-2.false)))),
    )

pub solve_splits-solve-requires : goal.solve_splits-solve-requires
solve_splits-solve-requires g t c κs within =
    let from = turn_from c.into_iter-k-iterator.ensures.into_iter_gives c.loop-k.invariant.0 c.in-Some.ensures.steps in
    let below = turn_below c.into_iter-k-iterator.ensures.into_iter_gives c.loop-k.invariant.0 c.in-Some.ensures.steps in
    let part = first_part c.args.self.now.frame c.args.spot c.parts.result.0 c.parts.ensures.first c.parts.ensures.within in
    let node = ap (λ (x : Spot). x.node) c.front-front.ensures in
    let start = ap (λ (x : Spot). x.start) c.front-front.ensures in
    let end = ap (λ (x : Spot). x.end) c.front-front.ensures in (
      omega (arith, c.decreases, c.requires.sought.on.node, c.requires.sought.laid.name_short, c.requires.sought.on.end, from, below, c.splits-splits.ensures.from, c.splits-splits.ensures.to, part.above, part.inside, part.start, part.end, node, start, end),
      (
        within.0,
        (
          within.1.0,
          (
            within.1.1,
            (
              record {
                laid = room_kept _ _ c.args.bench.now c.has_both.new.bench (c.has_both.auto.bench ∙ c.loop-k.auto.bench) c.requires.sought.laid;
                on = record { node = omega (arith, node, part.inside); start = omega (arith, start, part.start, end, from, c.splits-splits.ensures.from); end = omega (arith, end, below, c.splits-splits.ensures.to, c.requires.sought.on.end) };
                right = right_both (g.P.Policy.above c.args.self.now.policy.now) (frame_rows c.args.self.now.frame) (word c.args.self.now) c.args.self.now.frame.symbols c.loop-k.bench c.has_both.new.bench c.front-front.result.node c.back-back.result.node c.front-front.result.start c.front-front.result.end c.back-back.result.end c.has_both.result c.loop-k.invariant.1.right c.has_both.ensures;
              },
              c.has_both.ensures.first c.if-has_both.true,
            ),
          ),
        ),
      ),
    )

pub solve_splits-loop-k-init : goal.solve_splits-loop-k-init
solve_splits-loop-k-init g t c = (left_all c.into_iter-k-iterator.result, prepared_none (g.P.Policy.above c.args.self.now.policy.now) c.args.self.now.frame (word c.args.self.now) c.args.spot c.requires.sought.on (word_long c.args.self.now) c.args.bench.now c.into_iter-k-iterator.result.start c.into_iter-k-iterator.result.end (rw c.into_iter-k-iterator.ensures.into_iter_gives (rw (c.parts.ensures.first, c.parts.ensures.second) at c.splits-splits.ensures)) c.requires.sought.right)

pub solve_splits-loop-k-preserved-then-has_both : goal.solve_splits-loop-k-preserved-then-has_both
solve_splits-loop-k-preserved-then-has_both g t c =
    let P : ℕ → Type 0 = λ k. PreparedAt (g.P.Policy.above c.args.self.now.policy.now) c.args.self.now.frame (word c.args.self.now) c.args.bench.now c.loop-k.bench c.args.spot k in
    let Q : ℕ → Type 0 = λ k. PreparedAt (g.P.Policy.above c.args.self.now.policy.now) c.args.self.now.frame (word c.args.self.now) c.args.bench.now c.solve-then-has_both.new.bench c.args.spot k in (
      turn_left c.into_iter-k-iterator.ensures.into_iter_gives c.loop-k.invariant.0 c.in-Some.ensures.steps,
      subst Q (turn_next c.into_iter-k-iterator.ensures.into_iter_gives c.loop-k.invariant.0 c.in-Some.ensures.steps) (prepared_solved (g.P.Policy.above c.args.self.now.policy.now) c.args.self.now.frame (word c.args.self.now) c.args.spot c.requires.sought.on (word_long c.args.self.now) c.args.bench.now c.loop-k.bench c.has_both.new.bench c.solve.new.bench c.solve-then-has_both.new.bench c.in-Some.k c.has_both.result (subst P (sym c.in-Some.ensures.steps.1.1) c.loop-k.invariant.1) (rw (c.front-front.ensures, c.back-back.ensures, c.parts.ensures.first, c.parts.ensures.second) at c.has_both.ensures) (rw (c.front-front.ensures, c.parts.ensures.first) at c.solve.ensures) (rw (c.back-back.ensures, c.parts.ensures.second) at c.solve-then-has_both.ensures)),
    )

pub solve_splits-loop-k-preserved : goal.solve_splits-loop-k-preserved
solve_splits-loop-k-preserved g t c =
    let P : ℕ → Type 0 = λ k. PreparedAt (g.P.Policy.above c.args.self.now.policy.now) c.args.self.now.frame (word c.args.self.now) c.args.bench.now c.loop-k.bench c.args.spot k in
    let Q : ℕ → Type 0 = λ k. PreparedAt (g.P.Policy.above c.args.self.now.policy.now) c.args.self.now.frame (word c.args.self.now) c.args.bench.now c.has_both.new.bench c.args.spot k in (
      turn_left c.into_iter-k-iterator.ensures.into_iter_gives c.loop-k.invariant.0 c.in-Some.ensures.steps,
      subst Q (turn_next c.into_iter-k-iterator.ensures.into_iter_gives c.loop-k.invariant.0 c.in-Some.ensures.steps) (prepared_skip (g.P.Policy.above c.args.self.now.policy.now) c.args.self.now.frame (word c.args.self.now) c.args.spot c.requires.sought.on (word_long c.args.self.now) c.args.bench.now c.loop-k.bench c.has_both.new.bench c.in-Some.k c.has_both.result c.if-has_both.false (subst P (sym c.in-Some.ensures.steps.1.1) c.loop-k.invariant.1) (rw (c.front-front.ensures, c.back-back.ensures, c.parts.ensures.first, c.parts.ensures.second) at c.has_both.ensures)),
    )

pub solve_splits-returns : goal.solve_splits-returns
solve_splits-returns g t c = prepared_all (g.P.Policy.above c.args.self.now.policy.now) c.args.self.now.frame (word c.args.self.now) c.args.spot c.requires.sought.on (word_long c.args.self.now) c.args.bench.now c.loop-k.bench c.splits-splits.result.start c.splits-splits.result.end c.loop-k.k-iterator.start (rw (c.parts.ensures.first, c.parts.ensures.second) at c.splits-splits.ensures) (turns_over c.into_iter-k-iterator.ensures.into_iter_gives c.loop-k.invariant.0 c.in-None.ensures.steps) c.loop-k.invariant.1

pub solve-returns : goal.solve-returns
solve-returns g t c = settled_put (g.P.Policy.above c.args.self.now.policy.now) c.args.self.now.frame (word c.args.self.now) c.args.spot c.requires.sought.on c.args.bench.now c.best_code-code.new.bench c.put.new.bench c.best_code-code.result
    (room_kept _ _ c.args.bench.now c.best_code-code.new.bench c.best_code-code.auto.bench c.requires.sought.laid) c.requires.present c.best_code-code.ensures c.put.ensures.known c.put.ensures.fresh
