-- The rows that a rule keeps. Assumes nothing.
use Rattle.std.specs.Prelude.{◌≤◌, List, take}
use Rattle.rules.specs.declared.row.Row.{Row}
use Rattle.rules.specs.declared.rule.Rule.{Rule}
use Rattle.rules.specs.Trees.{Tree, Of, size}

-- the rows of a rule
abbrev pub rule_rows : Rule → List Row
rule_rows r = take r.len r.rows

-- rows that are a rule's: those of a tree, and at most 64
pub record Ruled (rs : List Row) : Type 0 where
  pub tree : Tree
  pub of : Of rs tree
  pub few : size tree ≤ 64
