use Rattle.std.proofs.Common.{length, refl, ap, arith}
use Rattle.std.proofs.lemmas.Result.{err_from_is_err_and, MatchResult-weaker}
use Rattle.text.specs.Readers.{alone_dot, alone_one}
use Rattle.text.proofs.Combine.{empty_put}
use Rattle.text.proofs.Room.{branch_reached, piece_reached}
use Rattle.text.proofs.Steps.{grown_as, not_begun, text_goes, text_stays, text_ends, branch_goes, branch_stays, branch_ends, piece_goes, opened, opened_stays, not_closed, leaf_goes}
use Rattle.text.proofs.readers.Reader.+readers.Goals as goal

pub atom-returns-in_err-text-in-Open : goal.atom-returns-in_err-text-in-Open
atom-returns-in_err-text-in-Open t c =
    let p = err_from_is_err_and c.from_residual-in_err-text-in-Open.result c.from_residual-in_err-text-in-Open.ensures.1 in
    let s = c.in_ok-sign.ensures in
    let h = c.in_err-text-in-Open.ensures in
    rw (p.1, p.2) (h.0, opened_stays c.in-Open.is s h.1)

pub atom-returns-else-not-take : goal.atom-returns-else-not-take
atom-returns-else-not-take t c = let s = c.in_ok-sign.ensures in opened c.in-Open.is s c.in_ok-text-in-Open.ensures (c.take.ensures.yes c.if-not-take.false)

pub atom-returns-then-not-take : goal.atom-returns-then-not-take
atom-returns-then-not-take t c = let s = c.in_ok-sign.ensures in (refl, not_closed c.in-Open.is s c.in_ok-text-in-Open.ensures (c.take.ensures.no c.if-not-take.true).1)

pub atom-returns-in-Close : goal.atom-returns-in-Close
atom-returns-in-Close t c = (refl, not_begun c.in-Close.is c.in_ok-sign.ensures.2)

pub atom-returns-in-Dot : goal.atom-returns-in-Dot
atom-returns-in-Dot t c = let s = c.in_ok-sign.ensures in let l = c.leaf.ensures in leaf_goes c.in-Dot.is s alone_dot (omega arith) l.text l.at l.count l.rows

pub atom-returns-in-Plain : goal.atom-returns-in-Plain
atom-returns-in-Plain t c = let s = c.in_ok-sign.ensures in let l = c.leaf-in-Plain.ensures in leaf_goes c.in-Plain.is s alone_one (omega arith) l.text l.at l.count l.rows

pub atom-returns-in-Escape : goal.atom-returns-in-Escape
atom-returns-in-Escape t c = let s = c.in_ok-sign.ensures in let l = c.leaf-in-Escape.ensures in leaf_goes c.in-Escape.is s alone_one (omega arith) l.text l.at l.count l.rows

pub atom-returns-in-Class : goal.atom-returns-in-Class
atom-returns-in-Class t c = let s = c.in_ok-sign.ensures in let l = c.leaf-in-Class.ensures in leaf_goes c.in-Class.is s alone_one (omega arith) l.text l.at l.count l.rows

pub branch-returns-then-stops_at : goal.branch-returns-then-stops_at
branch-returns-then-stops_at t c = let p = c.push.ensures in record { text = p.text; reaches = empty_put c.from.ensures (c.stops_at.ensures.yes c.if-stops_at.true) (omega arith) p.at p.count p.rows }

pub branch-returns-then-stops_at-2 : goal.branch-returns-then-stops_at-2
branch-returns-then-stops_at-2 t c = branch_ends c.in_ok-piece.ensures (c.stops_at-2.ensures.yes c.if-stops_at-2.true)

pub branch-insert_at-requires : goal.branch-insert_at-requires
branch-insert_at-requires t c = omega (arith, piece_reached c.in_ok-piece.ensures)

pub branch-branch-self-requires : goal.branch-branch-self-requires
branch-branch-self-requires t c = omega (arith, piece_reached c.in_ok-piece.ensures, ap length c.insert_at.ensures.text)

pub branch-returns : goal.branch-returns
branch-returns t c =
    let g = c.in_ok-piece.ensures in
    let s = c.stops_at-2.ensures.no c.if-stops_at-2.false in
    MatchResult-weaker c.branch-self.result c.branch-self.ensures
    (λ _ h. branch_goes g s (grown_as c.from-2.ensures c.insert_at.ensures) h)
    (λ d h. (h.0, branch_stays g s c.insert_at.ensures h.1))

pub piece-returns : goal.piece-returns
piece-returns t c = piece_goes c.in_ok-atom.ensures c.stars.ensures.text c.stars.ensures.read

pub text-text-requires : goal.text-text-requires
text-text-requires t c =
    let k = c.take.ensures.yes c.if-take.true in
    let e = ap length k.moved.text in
    omega (arith, branch_reached c.in_ok-branch.ensures, ap length c.insert_at.ensures.text)

pub text-returns-then-take : goal.text-returns-then-take
text-returns-then-take t c =
    let g = c.in_ok-branch.ensures in
    let k = c.take.ensures.yes c.if-take.true in
    MatchResult-weaker c.text.result c.text.ensures
    (λ _ h. text_goes g k (grown_as c.from.ensures c.insert_at.ensures) h)
    (λ d h. (h.0, text_stays g k c.insert_at.ensures h.1))

pub text-returns-else-take : goal.text-returns-else-take
text-returns-else-take t c = text_ends c.in_ok-branch.ensures (c.take.ensures.no c.if-take.false)
