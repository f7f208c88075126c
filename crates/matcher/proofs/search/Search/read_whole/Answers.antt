use Rattle.std.proofs.Common.{length, sym, refl, ap, ◌∙◌, arith}
use Rattle.rules.specs.Trees.{size}
use Rattle.rules.proofs.RowFacts.{length_rows}
use Rattle.matcher.specs.Frames.{frame_rows}
use Rattle.matcher.specs.Searches.{word}
use Rattle.matcher.proofs.Framed.{framed}
use Rattle.matcher.proofs.Marks.{room_kept}
use Rattle.matcher.proofs.Firm.{right_told}
use Rattle.matcher.proofs.Words.{word_long}
use Rattle.matcher.proofs.Wholes.{root_on, root_size, some_row, blank_right, whole_found, whole_lost}
use Rattle.matcher.proofs.Outcomes.{fit, nothing_behind}
use Rattle.matcher.proofs.search.Search.read_whole.Goals as goal

pub has-requires : goal.has-requires
has-requires g c = record {
  laid = room_kept _ _ c.args.bench.now c.wipe.new.bench c.wipe.auto.bench c.requires.laid;
  on = root_on c.args.self.now.frame;
  sound = (blank_right (g.P.Policy.above c.args.self.now.policy.now) c.args.self.now.frame (word c.args.self.now) c.wipe.new.bench c.wipe.ensures).sound;
}

pub returns-then-not-has : goal.returns-then-not-has
returns-then-not-has g c = λ t e. (
  fit (frame_rows c.args.self.now.frame) t e (word c.args.self.now) c.args.self.now.frame.symbols (word_long c.args.self.now) c.args.bench.now c.args.out.now (record { short = c.requires.laid.name_short; cells = c.requires.laid.cells; entries = omega (arith, c.requires.long) }),
  whole_lost (g.P.Policy.above c.args.self.now.policy.now) (frame_rows c.args.self.now.frame) (word c.args.self.now) c.args.self.now.frame.symbols c.wipe.new.bench c.has.new.bench (word_long c.args.self.now) c.has.result c.if-not-has.true c.has.ensures t e,
  refl,
)

pub solve-requires-clause-sought : goal.solve-requires-clause-sought
solve-requires-clause-sought g c = record {
  laid = room_kept _ _ c.args.bench.now c.has.new.bench (c.has.auto.bench ∙ c.wipe.auto.bench) c.requires.laid;
  on = root_on c.args.self.now.frame;
  right = right_told (g.P.Policy.above c.args.self.now.policy.now) (frame_rows c.args.self.now.frame) (word c.args.self.now) c.args.self.now.frame.symbols c.wipe.new.bench c.has.new.bench 0 0 c.args.self.now.frame.symbols c.has.result
      (blank_right (g.P.Policy.above c.args.self.now.policy.now) c.args.self.now.frame (word c.args.self.now) c.wipe.new.bench c.wipe.ensures) c.has.ensures;
}

pub solve-requires-clause-present : goal.solve-requires-clause-present
solve-requires-clause-present g c = λ s h. (c.has.ensures.says s h).has c.if-not-has.false

pub byte-code-requires-clause-on : goal.byte-code-requires-clause-on
byte-code-requires-clause-on g c = root_on c.args.self.now.frame

pub unpack-requires-clause-inside : goal.unpack-requires-clause-inside
unpack-requires-clause-inside g c = some_row (frame_rows c.args.self.now.frame) (framed c.args.self.now.frame).tree

pub unpack-requires-clause-long : goal.unpack-requires-clause-long
unpack-requires-clause-long g c = c.requires.long ∙ sym (root_size (frame_rows c.args.self.now.frame) c.args.self.now.frame.sizes (framed c.args.self.now.frame).tree (framed c.args.self.now.frame).sizes)

pub returns : goal.returns
returns g c = λ t e. (
  fit (frame_rows c.args.self.now.frame) t e (word c.args.self.now) c.args.self.now.frame.symbols (word_long c.args.self.now) c.args.bench.now c.args.out.now (record { short = c.requires.laid.name_short; cells = c.requires.laid.cells; entries = omega (arith, c.requires.long) }),
  (
    c.unpack.new.out,
    whole_found (g.P.Policy.above c.args.self.now.policy.now) (frame_rows c.args.self.now.frame) (word c.args.self.now) c.args.self.now.frame.symbols c.has.new.bench c.solve.new.bench (word_long c.args.self.now) c.byte-code.result c.byte-code.ensures c.solve.ensures c.unpack.new.out c.unpack.ensures t e,
    sym (nothing_behind (size t) c.unpack.new.out c.args.out.now (omega (arith, c.requires.long, ap length e, length_rows t))),
  ),
)
