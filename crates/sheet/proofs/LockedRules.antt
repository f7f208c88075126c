-- Every rule that a locked sheet holds is one: the rows of a tree, at most 64.
use Rattle.std.proofs.Common.{ℕ, zero, suc, ◌<◌, List, [], ◌∷◌, map, length, vec_items, arith}
use Rattle.rules.specs.RuleRows.{Ruled}
use Rattle.sheet.specs.declared.held.Held.{Held}
use Rattle.sheet.specs.declared.sheet.LockedSheet.{LockedSheet}
use Rattle.sheet.specs.Questions.{at}
use Rattle.sheet.specs.Sheets.{held_rows, locked}
use Rattle.sheet.proofs.QuestionFacts.{held_ruled}

all_ruled : (hs : List Held) (k : ℕ) → k < length (map held_rows hs) → Ruled (at (map held_rows hs) k)
all_ruled [] k h = absurd (omega arith)
all_ruled (x ∷ hs) zero h = held_ruled x
all_ruled (x ∷ hs) (suc k) h = all_ruled hs k (omega arith)

pub locked_ruled : {A P : Type 0} (s : LockedSheet A P) (k : ℕ) → k < length (locked s) → Ruled (at (locked s) k)
locked_ruled s k h = all_ruled (vec_items s.kept.rules) k h
