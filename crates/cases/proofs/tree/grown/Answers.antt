use Rattle.std.proofs.Common.{◌≡◌, ◌++◌, sym, ap, ◌∙◌, rules}
use Rattle.rules.specs.Kinds.{kind_number}
use Rattle.rules.specs.Trees.{choice, sequence}
use Rattle.cases.specs.Names.{ruled}
use Rattle.cases.specs.Parts.{parts}
use Rattle.cases.proofs.Stacks.{a_choice, a_sequence, of_mapped}
use Rattle.cases.proofs.tree.grown.Goals as goal

pub returns-in_ok-two_parts-in-Ok-Choice-clause-tree :
    goal.returns-in_ok-two_parts-in-Ok-Choice-clause-tree
returns-in_ok-two_parts-in-Ok-Choice-clause-tree c t below rest e s =
    let two = a_choice t c.args.row.now below e (ap kind_number (sym c.in-Ok-Choice.field-0-is) ∙ c.in-Ok-Choice.ensures) in
    let given = c.in_ok-two_parts-in-Ok-Choice.ensures.parts two.0 two.1 rest (s ∙ ap (λ z. parts z ++ rest) two.2) in
    of_mapped c.in_ok-two_parts-in-Ok-Choice.field-0 c.map.result c.map.ensures.cases given (λ x y l g.
    let made : ruled y ≡ choice (ruled x.0.value) (ruled x.1.value) = search rules in
    (cc (made, g.0, g.1, two.2), g.2))

pub returns-in_ok-two_parts-in-Ok-Sequence-clause-tree :
    goal.returns-in_ok-two_parts-in-Ok-Sequence-clause-tree
returns-in_ok-two_parts-in-Ok-Sequence-clause-tree c t below rest e s =
    let two = a_sequence t c.args.row.now below e (ap kind_number (sym c.in-Ok-Sequence.field-0-is) ∙ c.in-Ok-Sequence.ensures) in
    let given = c.in_ok-two_parts-in-Ok-Sequence.ensures.parts two.0 two.1 rest (s ∙ ap (λ z. parts z ++ rest) two.2) in
    of_mapped c.in_ok-two_parts-in-Ok-Sequence.field-0 c.map-in-Ok-Sequence.result c.map-in-Ok-Sequence.ensures.cases given (λ x y l g.
    let made : ruled y ≡ sequence (ruled x.0.value) (ruled x.1.value) = search rules in
    (cc (made, g.0, g.1, two.2), g.2))
