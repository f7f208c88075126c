use Rattle.std.proofs.Common.{◌≡◌, vec_items, sym, refl, ap, ◌∙◌, append-nil}
use Rattle.constraints.proofs.Prints.{rule_prints, added_to}
use Rattle.constraints.proofs.answers.serve_rule.Goals as goal
use Rattle.constraints.proofs.answers.serve_rule.Goals.{in-Err+in_ok-print_denial, in_default}

pub returns : goal.returns
returns c bench =
    let policy : c.lock-sheet.result.kept.policy ≡ c.args.sheet.kept.policy = c.lock-sheet.ensures.2 ∙ c.add_text-added.ensures.policy ∙ c.unlock-open.ensures.2 in
    elim c.match-added.branch [
      | in-Err+in_ok-print_denial w ↦ record {
        printed = _;
        allowed = rule_prints policy (added_to c.unlock-open.ensures.0 c.lock-sheet.ensures.0 w.in-Err.ensures.answer) refl;
        appended = ap vec_items w.out-is ∙ w.in_ok-print_denial.ensures;
      }
      | in_default w ↦ record {
        printed = _;
        allowed = rule_prints policy (added_to c.unlock-open.ensures.0 c.lock-sheet.ensures.0 w.in_default.ensures.answer) refl;
        appended = ap vec_items w.out-is ∙ sym (append-nil (vec_items c.args.out.now));
      }
    ]
