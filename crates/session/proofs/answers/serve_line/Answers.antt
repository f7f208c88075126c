use Rattle.std.proofs.Common.{rules}
use Rattle.session.proofs.Prints.{silent, passed_on, asks, awaiting_rule, awaiting_name, awaiting_other, serving_policy, serving_name, serving_other, comes, adds}
use Rattle.session.proofs.answers.serve_line.Goals as goal
use Rattle.session.proofs.answers.serve_line.Goals.{in-Awaiting+in-Rule-1, in-Awaiting+in-Name-1, in-Awaiting+in-Other-1, in-Serving+in-Policy-1, in-Serving+in-Name-1, in-Serving+in-Other-1}

pub returns-in-Awaiting-Policy : goal.returns-in-Awaiting-Policy
returns-in-Awaiting-Policy c = silent _ _ (comes _ c.in-Awaiting-Policy.is-0 c.in-Awaiting-Policy.ensures)

pub returns-in_ok-serve_rule-in-Serving-Rule : goal.returns-in_ok-serve_rule-in-Serving-Rule
returns-in_ok-serve_rule-in-Serving-Rule c = passed_on (λ p h. adds c.in-Serving-Rule.is-0 c.in-Serving-Rule.ensures h) c.in_ok-serve_rule-in-Serving-Rule.ensures

pub returns-in_ok-print_question-in-Awaiting-Rule : goal.returns-in_ok-print_question-in-Awaiting-Rule
returns-in_ok-print_question-in-Awaiting-Rule c =
    asks _ _ _ _ _ c.kind_of.ensures
    (elim c.in-Awaiting-Rule-1.branch [
      | in-Awaiting+in-Rule-1 w ↦ search (rules, awaiting_rule)
      | in-Awaiting+in-Name-1 w ↦ search (rules, awaiting_name)
      | in-Awaiting+in-Other-1 w ↦ search (rules, awaiting_other)
      | in-Serving+in-Policy-1 w ↦ search (rules, serving_policy)
      | in-Serving+in-Name-1 w ↦ search (rules, serving_name)
      | in-Serving+in-Other-1 w ↦ search (rules, serving_other)
    ])
    c.in_ok-print_question-in-Awaiting-Rule.ensures
