use Rattle.std.proofs.Common.{ℕ, ◌+◌, ◌-◌, List, get_or, take, drop, sym, ap, ◌∙◌, subst, arith}
use Rattle.rules.specs.declared.row.Row.{Row}
use Rattle.rules.specs.Trees.{leaf, row}
use Rattle.rules.specs.Languages.{Sight, seen}
use Rattle.matcher.specs.States.{Says, NoSplit}
use Rattle.matcher.specs.Frames.{frame_rows}
use Rattle.matcher.specs.declared.frame.Spot.{Spot}
use Rattle.matcher.specs.Searches.{word, Asked}
use Rattle.matcher.proofs.Framed.{frame_single}
use Rattle.matcher.proofs.Leaves.{part_seen}
use Rattle.matcher.proofs.Marks.{room_kept}
use Rattle.matcher.proofs.Words.{word_long}
use Rattle.matcher.proofs.Answered.{not_lacking, told_lacks, told_has, told_marked, told_empty, told_leaf, both_not, both_so, either_first, either_second, pair_start, pair_end, pair_found, pair_more, pair_none, rounds_end, rounds_nothing, rounds_found, rounds_more, rounds_none}
use Rattle.matcher.proofs.Turns.{left_all, turn_from, turn_below, turn_next, turn_left, turns_over}
use Rattle.matcher.proofs.search.Search.+membership.Goals as goal

pub has-returns-in-Lacks : goal.has-returns-in-Lacks
has-returns-in-Lacks g t c = told_lacks c.args.self.now.frame (word c.args.self.now) c.args.spot c.requires.on c.args.bench.now c.requires.sound c.in-Lacks.ensures

pub has-returns-in-Has : goal.has-returns-in-Has
has-returns-in-Has g t c =
    let n = not_lacking c.look.result _ c.look.ensures c.in-Has.is in
    told_has c.args.self.now.frame (word c.args.self.now) c.args.spot c.requires.on c.args.bench.now c.requires.sound n.0 n.1

pub has-returns-in-Unknown : goal.has-returns-in-Unknown
has-returns-in-Unknown g t c = told_marked c.args.self.now.frame (word c.args.self.now) c.args.spot c.requires.on c.args.bench.now c.has_anew-found.new.bench c.mark.new.bench c.has_anew-found.result
    (room_kept _ _ c.args.bench.now c.has_anew-found.new.bench c.has_anew-found.auto.bench c.requires.laid) c.has_anew-found.ensures c.mark.ensures.known c.mark.ensures.yes c.mark.ensures.no

pub has_anew-returns-in-Empty : goal.has_anew-returns-in-Empty
has_anew-returns-in-Empty g t c = told_empty c.args.self.now.frame (word c.args.self.now) c.args.spot c.requires.on c.args.bench.now c.requires.sound (word_long c.args.self.now) (sym c.in-Empty.ensures)

pub has_anew-returns-in-Leaf : goal.has_anew-returns-in-Leaf
has_anew-returns-in-Leaf g t c =
    let holds : _ → Sight = λ s lo hi. g.A.Alphabet.held c.args.self.now.alphabet.now lo hi s in
    let P : List Row → Type 0 = λ rs. Says (leaf (get_or rs c.args.spot.node (row 0 0 0)).lo (get_or rs c.args.spot.node (row 0 0 0)).hi) (seen (g.A.Alphabet.held c.args.self.now.alphabet.now) (take (c.args.spot.end - c.args.spot.start) (drop c.args.spot.start c.args.self.now.name.now))) c.leaf_has.result in
    let Q : List Sight → Type 0 = λ x. Says (leaf (get_or (frame_rows c.args.self.now.frame) c.args.spot.node (row 0 0 0)).lo (get_or (frame_rows c.args.self.now.frame) c.args.spot.node (row 0 0 0)).hi) x c.leaf_has.result in
    told_leaf c.args.self.now.frame (word c.args.self.now) c.args.spot c.requires.on c.args.bench.now c.requires.sound (sym c.in-Leaf.ensures) c.leaf_has.result
    (subst Q (sym (part_seen holds c.args.self.now.name.now c.args.spot.start c.args.spot.end)) (subst P c.rows.ensures c.leaf_has.ensures))

pub has_both-returns-then-has : goal.has_both-returns-then-has
has_both-returns-then-has g t c = both_so c.args.self.now.frame (word c.args.self.now) c.args.bench.now c.has.new.bench c.args.first c.args.second c.requires.meet c.has-then-has.new.bench c.has.result c.has-then-has.result c.if-has.true c.has.ensures c.has-then-has.ensures

pub has_both-returns-else-has : goal.has_both-returns-else-has
has_both-returns-else-has g t c = both_not c.args.self.now.frame (word c.args.self.now) c.args.bench.now c.has.new.bench c.args.first c.args.second c.requires.meet c.has.result c.if-has.false c.has.ensures

pub has_rounds-returns-then-spot : goal.has_rounds-returns-then-spot
has_rounds-returns-then-spot g t c = rounds_nothing c.args.self.now.frame (word c.args.self.now) c.args.spot c.requires.asked.on (word_long c.args.self.now) c.args.bench.now (omega (arith, c.requires.kind)) c.if-spot.true c.requires.asked.sound

pub has_either-returns-then-has : goal.has_either-returns-then-has
has_either-returns-then-has g t c = either_first c.args.self.now.frame (word c.args.self.now) c.args.spot c.requires.asked.on (word_long c.args.self.now) c.args.bench.now c.has.new.bench c.has.result c.requires.kind c.if-has.true (rw c.parts.ensures.first at c.has.ensures)

pub has_either-returns-else-has : goal.has_either-returns-else-has
has_either-returns-else-has g t c = either_second c.args.self.now.frame (word c.args.self.now) c.args.spot c.requires.asked.on (word_long c.args.self.now) c.args.bench.now c.has.new.bench c.has-else-has.new.bench c.has.result c.has-else-has.result c.requires.kind c.if-has.false (rw c.parts.ensures.first at c.has.ensures) (rw c.parts.ensures.second at c.has-else-has.ensures)

pub has_pair-loop-k-init : goal.has_pair-loop-k-init
has_pair-loop-k-init g t c = (left_all c.into_iter-k-iterator.result, pair_start c.args.self.now.frame (word c.args.self.now) c.args.spot c.requires.asked.on (word_long c.args.self.now) c.args.bench.now c.into_iter-k-iterator.result.start c.into_iter-k-iterator.result.end (rw c.into_iter-k-iterator.ensures.into_iter_gives (rw (c.parts.ensures.first, c.parts.ensures.second) at c.splits-splits.ensures)) c.requires.asked.sound)

pub has_pair-returns-then-has_both : goal.has_pair-returns-then-has_both
has_pair-returns-then-has_both g t c =
    let P : ℕ → Type 0 = λ k. NoSplit (frame_rows c.args.self.now.frame) (word c.args.self.now) c.args.self.now.frame.symbols c.args.bench.now c.loop-k.bench c.args.spot.node c.args.spot.start c.args.spot.end k in
    pair_found c.args.self.now.frame (word c.args.self.now) c.args.spot c.requires.asked.on (word_long c.args.self.now) c.args.bench.now c.loop-k.bench c.has_both.new.bench c.in-Some.k c.has_both.result c.requires.kind
    (omega (arith, turn_from c.into_iter-k-iterator.ensures.into_iter_gives c.loop-k.invariant.0 c.in-Some.ensures.steps, c.splits-splits.ensures.from, ap (λ (s : Spot). s.start) c.parts.ensures.first)) (omega (arith, turn_below c.into_iter-k-iterator.ensures.into_iter_gives c.loop-k.invariant.0 c.in-Some.ensures.steps, c.splits-splits.ensures.to, ap (λ (s : Spot). s.end) c.parts.ensures.first))
    c.if-has_both.true (subst P (sym c.in-Some.ensures.steps.1.1) c.loop-k.invariant.1) (rw (c.front.ensures, c.back.ensures, c.parts.ensures.first, c.parts.ensures.second) at c.has_both.ensures)

pub has_pair-loop-k-preserved : goal.has_pair-loop-k-preserved
has_pair-loop-k-preserved g t c =
    let P : ℕ → Type 0 = λ k. NoSplit (frame_rows c.args.self.now.frame) (word c.args.self.now) c.args.self.now.frame.symbols c.args.bench.now c.loop-k.bench c.args.spot.node c.args.spot.start c.args.spot.end k in
    let Q : ℕ → Type 0 = λ k. NoSplit (frame_rows c.args.self.now.frame) (word c.args.self.now) c.args.self.now.frame.symbols c.args.bench.now c.has_both.new.bench c.args.spot.node c.args.spot.start c.args.spot.end k in (
      turn_left c.into_iter-k-iterator.ensures.into_iter_gives c.loop-k.invariant.0 c.in-Some.ensures.steps,
      subst Q (turn_next c.into_iter-k-iterator.ensures.into_iter_gives c.loop-k.invariant.0 c.in-Some.ensures.steps) (pair_more c.args.self.now.frame (word c.args.self.now) c.args.spot c.requires.asked.on (word_long c.args.self.now) c.args.bench.now c.loop-k.bench c.has_both.new.bench c.in-Some.k c.has_both.result c.if-has_both.false (subst P (sym c.in-Some.ensures.steps.1.1) c.loop-k.invariant.1) (rw (c.front.ensures, c.back.ensures, c.parts.ensures.first, c.parts.ensures.second) at c.has_both.ensures)),
    )

pub has_pair-returns : goal.has_pair-returns
has_pair-returns g t c = pair_none c.args.self.now.frame (word c.args.self.now) c.args.spot c.requires.asked.on (word_long c.args.self.now) c.args.bench.now c.loop-k.bench (c.args.spot.end + 1) c.requires.kind (omega arith)
    (pair_end c.args.self.now.frame (word c.args.self.now) c.args.spot c.requires.asked.on (word_long c.args.self.now) c.args.bench.now c.loop-k.bench c.splits-splits.result.start c.splits-splits.result.end c.loop-k.k-iterator.start (rw (c.parts.ensures.first, c.parts.ensures.second) at c.splits-splits.ensures) (turns_over c.into_iter-k-iterator.ensures.into_iter_gives c.loop-k.invariant.0 c.in-None.ensures.steps) c.loop-k.invariant.1)

pub has_rounds-splits-splits-requires-clause-first : goal.has_rounds-splits-splits-requires-clause-first
has_rounds-splits-splits-requires-clause-first g t c = let p = frame_single c.args.self.now.frame c.args.spot.node c.requires.asked.on.node (omega (arith, c.requires.kind)) in omega (arith, p.within, p.some)

pub has_rounds-has_both-requires : goal.has_rounds-has_both-requires
has_rounds-has_both-requires g t c κs = λ live.
    let p = frame_single c.args.self.now.frame c.args.spot.node c.requires.asked.on.node (omega (arith, c.requires.kind)) in
    let laid = room_kept _ _ c.args.bench.now c.loop-k.bench c.loop-k.auto.bench c.requires.asked.laid in
    let P : Spot → Type 0 = λ s. Asked c.args.self.now.frame (word c.args.self.now) c.loop-k.bench s in (
      omega (arith, c.decreases, c.requires.asked.on.node, c.requires.asked.laid.name_short, c.requires.asked.on.end, c.loop-k-test.true, c.loop-k.auto.k, c.splits-splits.ensures.to, ap (λ (s : Spot). s.node) c.front.ensures, ap (λ (s : Spot). s.start) c.front.ensures, ap (λ (s : Spot). s.end) c.front.ensures, ap (λ (s : Spot). s.node) c.back.ensures, ap (λ (s : Spot). s.start) c.back.ensures, ap (λ (s : Spot). s.end) c.back.ensures),
      (
        live.0,
        (
          live.1.0,
          (
            live.1.1,
            (
              subst P (sym c.front.ensures) (record { laid = laid; on = record { node = omega (arith, p.within, p.some); start = omega (arith, c.loop-k.auto.k); end = omega (arith, c.loop-k-test.true, c.splits-splits.ensures.to, c.requires.asked.on.end) }; sound = c.loop-k.invariant.sound }),
              (
                subst P (sym c.back.ensures) (record { laid = laid; on = record { node = c.requires.asked.on.node; start = omega (arith, c.loop-k-test.true, c.splits-splits.ensures.to); end = c.requires.asked.on.end }; sound = c.loop-k.invariant.sound }),
                ap (λ (s : Spot). s.end) c.front.ensures ∙ sym (ap (λ (s : Spot). s.start) c.back.ensures),
              ),
            ),
          ),
        ),
      ),
    )

pub has_rounds-returns-then-has_both : goal.has_rounds-returns-then-has_both
has_rounds-returns-then-has_both g t c = rounds_found c.args.self.now.frame (word c.args.self.now) c.args.spot c.requires.asked.on (word_long c.args.self.now) c.args.bench.now c.loop-k.bench c.has_both.new.bench c.loop-k.k c.has_both.result (omega (arith, c.requires.kind))
    (omega (arith, c.loop-k.auto.k)) (omega (arith, c.loop-k-test.true, c.splits-splits.ensures.to)) c.if-has_both.true c.loop-k.invariant (rw (c.front.ensures, c.back.ensures) at c.has_both.ensures)

pub has_rounds-loop-k-preserved : goal.has_rounds-loop-k-preserved
has_rounds-loop-k-preserved g t c = rounds_more c.args.self.now.frame (word c.args.self.now) c.args.spot c.requires.asked.on (word_long c.args.self.now) c.args.bench.now c.loop-k.bench c.has_both.new.bench c.loop-k.k c.has_both.result c.if-has_both.false c.loop-k.invariant (rw (c.front.ensures, c.back.ensures) at c.has_both.ensures)

pub has_rounds-returns : goal.has_rounds-returns
has_rounds-returns g t c = rounds_none c.args.self.now.frame (word c.args.self.now) c.args.spot c.requires.asked.on (word_long c.args.self.now) c.args.bench.now c.loop-k.bench (c.args.spot.end + 1) (omega (arith, c.requires.kind)) c.if-spot.false (omega arith)
    (rounds_end c.args.self.now.frame (word c.args.self.now) c.args.spot c.requires.asked.on (word_long c.args.self.now) c.args.bench.now c.loop-k.bench c.splits-splits.result.start c.splits-splits.result.end c.loop-k.k c.splits-splits.ensures (omega (arith, c.loop-k-test.false)) c.loop-k.invariant)
