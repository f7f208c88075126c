use Rattle.std.proofs.Common.{◌<◌, length, sym, arith}
use Rattle.std.proofs.lemmas.Bool.{eqb-false}
use Rattle.session.proofs.Splits.{parted, unparted}
use Rattle.session.proofs.lines.next_line.Goals as goal

pub returns-in-empty : goal.returns-in-empty
returns-in-empty c =
    let some : 0 < length c.args.input.now = omega (arith, eqb-false _ _ (sym c.if-is_empty.ensures)) in
    unparted _ _ _ _ _ c.line_end.ensures c.unwrap_or.ensures c.split_at.ensures.front c.split_at.ensures.back some c.in-empty.len_below

pub returns-in-len1-up : goal.returns-in-len1-up
returns-in-len1-up c = parted _ _ _ _ _ c.line_end.ensures c.unwrap_or.ensures c.split_at.ensures.front c.split_at.ensures.back c.in-len1-up.len_at_least
