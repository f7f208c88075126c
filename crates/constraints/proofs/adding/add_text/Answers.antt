use Rattle.std.proofs.lemmas.Result.{err_from_is_err_and}
use Rattle.constraints.specs.Served.{text_denied}
use Rattle.constraints.proofs.TextAdded.{read_added}
use Rattle.constraints.proofs.adding.add_text.Goals as goal

pub returns-in_err-count-clause-answer : goal.returns-in_err-count-clause-answer
returns-in_err-count-clause-answer c =
    let p = err_from_is_err_and c.from_residual.result c.from_residual.ensures.1 in
    rw (p.1, p.2) (text_denied c.in_err-count.ensures.1)

pub returns-clause-answer : goal.returns-clause-answer
returns-clause-answer c = read_added _ _ _ c.in_ok-count.ensures c.add.ensures.answer c.add.ensures.after
