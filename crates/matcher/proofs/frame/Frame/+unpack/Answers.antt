use Rattle.std.proofs.Common.{◌≡◌, ◌+◌, ◌<◌, length, get_or, ap, ◌∙◌, arith}
use Rattle.matcher.specs.Unpacking.{first_share, second_share}
use Rattle.matcher.specs.Frames.{frame_rows, frame_kind}
use Rattle.matcher.proofs.Framed.{framed, frame_single}
use Rattle.matcher.proofs.KindNumbers.{alone, paired}
use Rattle.matcher.proofs.Nodes.{own_size}
use Rattle.matcher.proofs.Unpacked.{written, written_one, first_long, rest_long, rest_fits, unpacked_pair, unpacked_single, unpacked_alone}
use Rattle.matcher.proofs.frame.Frame.+unpack.Goals as goal

pub bounds-out-0 : goal.bounds-out-0
bounds-out-0 t c = let f = framed c.args.self.now in omega (arith, own_size (frame_rows c.args.self.now) c.args.self.now.sizes c.args.node f.tree f.sizes c.requires.inside, c.requires.long)

pub returns-in-Empty : goal.returns-in-Empty
returns-in-Empty t c = unpacked_alone (frame_rows c.args.self.now) c.args.self.now.sizes c.args.self.now.symbols c.args.bench.now c.args.node c.args.stretch c.args.code (framed c.args.self.now).sizes (alone _ _ c.kind.ensures c.in-Empty.is) c.args.out.now c.requires.long

pub slice_bounds-unpack-count : goal.slice_bounds-unpack-count
slice_bounds-unpack-count t c =
    let p = frame_single c.args.self.now c.args.node c.requires.inside (omega (arith, c.in-Star.ensures)) in
    rest_fits c.args.out.now c.args.stretch (omega (arith, c.requires.long, p.own))

pub slice_bounds-unpack-start : goal.slice_bounds-unpack-start
slice_bounds-unpack-start t c =
    let p = frame_single c.args.self.now c.args.node c.requires.inside (omega (arith, c.in-Star.ensures)) in
    rest_fits c.args.out.now c.args.stretch (omega (arith, c.requires.long, p.own))

pub unpack-requires : goal.unpack-requires
unpack-requires t c =
    let p = frame_single c.args.self.now c.args.node c.requires.inside (omega (arith, c.in-Star.ensures)) in
    (omega (arith, c.decreases, c.requires.inside), (c.requires.room, (omega (arith, p.within, p.some), (tt, omega (arith, rest_long c.args.out.now c.args.stretch, c.requires.long, p.own)))))

pub returns-in-Star : goal.returns-in-Star
returns-in-Star t c s h =
    let k : 3 < frame_kind c.args.self.now c.args.node = omega (arith, c.in-Star.ensures) in
    let p = frame_single c.args.self.now c.args.node c.requires.inside k in
    written_one c.args.out.now c.args.stretch c.unpack.new.out (omega (arith, c.requires.long, p.own))
    ∙ unpacked_single (frame_rows c.args.self.now) c.args.self.now.sizes c.args.self.now.symbols c.args.bench.now c.args.node c.args.stretch c.args.code (framed c.args.self.now).sizes k c.unpack.new.out c.unpack.ensures s h

pub returns-in-Choice : goal.returns-in-Choice
returns-in-Choice t c s h =
    let q = paired _ _ c.kind.ensures c.in-Choice.is in
    let long = c.requires.long ∙ c.second-second.ensures.within.own in
    let k : length c.unpack-in-Choice.new.out ≡ get_or c.args.self.now.sizes (c.args.node + 1) 0 = c.unpack-in-Choice.auto.out ∙ first_long c.args.out.now c.args.stretch c.unpack-in-Choice.new.out c.unpack-in-Choice.new.out (get_or c.args.self.now.sizes (c.args.node + 1) 0) (get_or c.args.self.now.sizes (c.args.node + 1 + get_or c.args.self.now.sizes (c.args.node + 1) 0) 0) long in
    written c.args.out.now c.args.stretch c.unpack-in-Choice.new.out c.unpack-in-Choice-2.new.out (get_or c.args.self.now.sizes (c.args.node + 1) 0) (get_or c.args.self.now.sizes (c.args.node + 1 + get_or c.args.self.now.sizes (c.args.node + 1) 0) 0) long k
    ∙ unpacked_pair (frame_rows c.args.self.now) c.args.self.now.sizes c.args.self.now.symbols c.args.bench.now c.args.node c.args.stretch c.args.code (framed c.args.self.now).sizes q.low q.high c.second-second.result c.second-second.ensures.is
    c.shares-one.result.0 c.shares-one.result.1 c.code_at-left.result c.code_at-right.result c.unpack-in-Choice.new.out c.unpack-in-Choice-2.new.out
    (c.shares-one.ensures.first ∙ ap (λ k. first_share k c.args.stretch c.args.code) c.kind.ensures)
    (c.shares-one.ensures.second ∙ ap (λ k. second_share k c.args.stretch c.args.code) c.kind.ensures)
    c.code_at-left.ensures c.code_at-right.ensures c.unpack-in-Choice.ensures c.unpack-in-Choice-2.ensures s h
