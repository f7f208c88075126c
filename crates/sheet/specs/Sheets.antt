-- The rules that a sheet holds. Assumes nothing.
use Rattle.std.specs.Prelude.{List, map, vec_items}
use Rattle.rules.specs.declared.row.Row.{Row}
use Rattle.rules.specs.RuleRows.{rule_rows}
use Rattle.sheet.specs.declared.held.Held.{Held}
use Rattle.sheet.specs.declared.sheet.Kept.{Kept}
use Rattle.sheet.specs.declared.sheet.OpenSheet.{OpenSheet}
use Rattle.sheet.specs.declared.sheet.LockedSheet.{LockedSheet}
use Rattle.sheet.specs.Changes.{Rules}

-- the rows of a rule that is held
abbrev pub held_rows : Held → List Row
held_rows h = rule_rows h.rule

-- the rules that are kept
abbrev pub kept_rules : {A P : Type 0} → Kept A P → Rules
kept_rules k = map held_rows (vec_items k.rules)

-- the rules that an open sheet holds
abbrev pub holding : {A P : Type 0} → OpenSheet A P → Rules
holding s = kept_rules s.kept

-- the rules that a locked sheet holds
abbrev pub locked : {A P : Type 0} → LockedSheet A P → Rules
locked s = kept_rules s.kept
