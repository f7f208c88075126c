use Rattle.std.proofs.Common.{◌≡◌, ◌++◌, length, rules}
use Rattle.std.proofs.lemmas.Result.{MatchResult-weaker}
use Rattle.session.proofs.Prints.{silent}
use Rattle.session.specs.Served.{Appends, asked}
use Rattle.sheet.specs.Sheets.{locked}
use Rattle.constraints.specs.Served.{Answers}
use Rattle.constraints.proofs.Prints.{Asks, asks, awaiting_rule, awaiting_name, awaiting_other, serving_policy, serving_other, comes, stays_served, name_prints}
use Rattle.constraints.proofs.answers.serve_line.Goals as goal
use Rattle.constraints.proofs.answers.serve_line.Goals.{in-Awaiting+in-Rule-1, in-Awaiting+in-Name-1, in-Awaiting+in-Other-1, in-Serving+in-Policy-1, in-Serving+in-Other-1}

pub returns-in_ok-sheet-in-Awaiting-Policy : goal.returns-in_ok-sheet-in-Awaiting-Policy
returns-in_ok-sheet-in-Awaiting-Policy c = silent _ _ (comes c.in-Awaiting-Policy.is-0 c.in-Awaiting-Policy.ensures c.in_ok-sheet-in-Awaiting-Policy.ensures.0 c.in_ok-sheet-in-Awaiting-Policy.ensures.1)

pub returns-in_ok-serve_name-in-Serving-Name : goal.returns-in_ok-serve_name-in-Serving-Name
returns-in_ok-serve_name-in-Serving-Name c = stays_served _ _ _ _ _ _ _ _ c.in-Serving-Name.is-0 c.in-Serving-Name.ensures (name_prints _ _ _ _ _ _ c.in_ok-serve_name-in-Serving-Name.ensures)

pub returns-in-Awaiting-Rule : goal.returns-in-Awaiting-Rule
returns-in-Awaiting-Rule c =
    let why : Asks c.args.state c.kind_of.result = elim c.in-Awaiting-Rule-1.branch [
      | in-Awaiting+in-Rule-1 w ↦ search (rules, awaiting_rule)
      | in-Awaiting+in-Name-1 w ↦ search (rules, awaiting_name)
      | in-Awaiting+in-Other-1 w ↦ search (rules, awaiting_other)
      | in-Serving+in-Policy-1 w ↦ search (rules, serving_policy)
      | in-Serving+in-Other-1 w ↦ search (rules, serving_other)
    ] in
    MatchResult-weaker c.question.result
    {P = λ s. (s.0 ≡ c.args.state) × (s.1 ≡ c.args.sheet) × (c.question.new.out.items ≡ c.args.out.now.items ++ asked)}
    {P' = λ s. Appends (Answers (length c.args.bench.now) c.args.state c.args.sheet.kept.policy (locked c.args.sheet) c.args.line.now s.0 s.1.kept.policy (locked s.1)) c.args.out.now.items c.question.new.out.items}
    c.question.ensures
    (λ x h. let same_state = h.0 in let same_sheet = h.1 in rw (same_state, same_sheet) (asks _ _ _ _ _ _ _ _ c.kind_of.ensures why h.2))
    (λ y h. h)
