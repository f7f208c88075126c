use Rattle.constraints.proofs.NameAnswered.{not_governed, says_denial}
use Rattle.constraints.proofs.naming.serve_name.Goals as goal

pub returns-in-Err : goal.returns-in-Err
returns-in-Err c = says_denial _ _ _ _ _ _ _ c.print_refusal.result (not_governed _ _ _ _ _ c.in-Err.ensures.answer) c.print_refusal.ensures
