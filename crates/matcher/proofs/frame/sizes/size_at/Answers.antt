use Rattle.std.proofs.Common.{◌≡◌, ℕ, ◌+◌, List, get_or, arith}
use Rattle.rules.specs.Trees.{size}
use Rattle.rules.specs.RuleRows.{rule_rows}
use Rattle.matcher.proofs.Framed.{rule_ruled, rule_few}
use Rattle.matcher.proofs.KindNumbers.{alone, paired}
use Rattle.matcher.proofs.Nodes.{found, small, as_pair, as_single}
use Rattle.matcher.proofs.frame.sizes.size_at.Goals as goal

both_sizes : (table : List ℕ) (m : ℕ) (a b : ℕ) → get_or table (m + 1) 0 ≡ a → get_or table (m + 1 + a) 0 ≡ b → get_or table (m + 1 + get_or table (m + 1) 0) 0 ≡ b
both_sizes table m a b e f = rw e f

pub bounds-sizes-node : goal.bounds-sizes-node
bounds-sizes-node c =
    let f = found (rule_rows c.args.rule.now) (rule_ruled c.args.rule.now) c.args.node c.requires.inside in
    let p = as_single (rule_rows c.args.rule.now) c.args.sizes.now c.args.node c.requires.behind (omega (arith, c.in-Star.ensures)) f.tree f.stands in
    omega (arith, p.within, p.some, rule_few c.args.rule.now, c.requires.behind.long)

pub overflow_add-result-in-Star : goal.overflow_add-result-in-Star
overflow_add-result-in-Star c =
    let f = found (rule_rows c.args.rule.now) (rule_ruled c.args.rule.now) c.args.node c.requires.inside in
    let p = as_single (rule_rows c.args.rule.now) c.args.sizes.now c.args.node c.requires.behind (omega (arith, c.in-Star.ensures)) f.tree f.stands in
    omega (arith, p.within, rule_few c.args.rule.now, p.part_size)

pub bounds-sizes-node-in-Choice : goal.bounds-sizes-node-in-Choice
bounds-sizes-node-in-Choice c =
    let f = found (rule_rows c.args.rule.now) (rule_ruled c.args.rule.now) c.args.node c.requires.inside in
    let k = paired _ _ c.kind_at.ensures c.in-Choice.is in
    let p = as_pair (rule_rows c.args.rule.now) c.args.sizes.now c.args.node c.requires.behind k.low k.high f.tree f.stands in
    omega (arith, p.within, p.first_some, rule_few c.args.rule.now, c.requires.behind.long)

pub overflow_add-result-in-Choice : goal.overflow_add-result-in-Choice
overflow_add-result-in-Choice c =
    let f = found (rule_rows c.args.rule.now) (rule_ruled c.args.rule.now) c.args.node c.requires.inside in
    let k = paired _ _ c.kind_at.ensures c.in-Choice.is in
    let p = as_pair (rule_rows c.args.rule.now) c.args.sizes.now c.args.node c.requires.behind k.low k.high f.tree f.stands in
    omega (arith, p.within, rule_few c.args.rule.now, p.first_size)

pub bounds-sizes-node-in-Choice-2 : goal.bounds-sizes-node-in-Choice-2
bounds-sizes-node-in-Choice-2 c =
    let f = found (rule_rows c.args.rule.now) (rule_ruled c.args.rule.now) c.args.node c.requires.inside in
    let k = paired _ _ c.kind_at.ensures c.in-Choice.is in
    let p = as_pair (rule_rows c.args.rule.now) c.args.sizes.now c.args.node c.requires.behind k.low k.high f.tree f.stands in
    omega (arith, p.within, p.second_some, p.first_size, rule_few c.args.rule.now, c.requires.behind.long)

pub overflow_add-result-in-Choice-4 : goal.overflow_add-result-in-Choice-4
overflow_add-result-in-Choice-4 c =
    let f = found (rule_rows c.args.rule.now) (rule_ruled c.args.rule.now) c.args.node c.requires.inside in
    let k = paired _ _ c.kind_at.ensures c.in-Choice.is in
    let p = as_pair (rule_rows c.args.rule.now) c.args.sizes.now c.args.node c.requires.behind k.low k.high f.tree f.stands in
    let e = both_sizes c.args.sizes.now c.args.node (size p.first) (size p.second) p.first_size p.second_size in
    omega (arith, p.within, p.first_size, rule_few c.args.rule.now)

pub returns-in-Star : goal.returns-in-Star
returns-in-Star c s h =
    let p = as_single (rule_rows c.args.rule.now) c.args.sizes.now c.args.node c.requires.behind (omega (arith, c.in-Star.ensures)) s h in
    omega (arith, p.part_size, p.whole)

pub returns-in-Choice : goal.returns-in-Choice
returns-in-Choice c s h =
    let k = paired _ _ c.kind_at.ensures c.in-Choice.is in
    let p = as_pair (rule_rows c.args.rule.now) c.args.sizes.now c.args.node c.requires.behind k.low k.high s h in
    let e = both_sizes c.args.sizes.now c.args.node (size p.first) (size p.second) p.first_size p.second_size in
    omega (arith, p.first_size, p.whole)

pub returns-in-Empty : goal.returns-in-Empty
returns-in-Empty c = small (rule_rows c.args.rule.now) c.args.node (alone _ _ c.kind_at.ensures c.in-Empty.is)
