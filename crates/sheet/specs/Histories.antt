-- Histories: the calls that a sheet has had since it was opened, and the rules that it holds after them. Assumes nothing.
use Rattle.std.specs.Prelude.{ℕ, Bool, true, false, not, ◌&&◌, List, [], ◌∷◌}
use Rattle.rules.specs.declared.row.Row.{Row}
use Rattle.sheet.specs.Changes.{Rules, added, dropped}

-- a question, with the lengths of what it is lent: spans has a place, a name, a bench and a report; sets a place and masks
pub data Question (S : Type 0) : Type 0 where
  spans : ℕ → List S → ℕ → ℕ → Question S
  govern : List S → Question S
  sets : ℕ → ℕ → Question S

-- a call on a sheet
pub data Call (S : Type 0) : Type 0 where
  add : List Row → Call S
  drop : ℕ → Call S
  lock : Call S
  unlock : Call S
  ask : Question S → Call S

module _ {S : Type 0} where
  -- whether an open sheet, or a locked one, allows the call
  abbrev pub allows : Bool → Call S → Bool
  allows is_open (add rs) = is_open
  allows is_open (drop place) = is_open
  allows is_open lock = is_open
  allows is_open unlock = not is_open
  allows is_open (ask q) = not is_open

  -- whether the sheet is open after a call that it allows
  abbrev pub open_then : Bool → Call S → Bool
  open_then is_open (add rs) = is_open
  open_then is_open (drop place) = is_open
  open_then is_open lock = false
  open_then is_open unlock = true
  open_then is_open (ask q) = is_open

  -- the rules held after a call
  abbrev pub held_then : (ℕ → ℕ → Bool) → Rules → Call S → Rules
  held_then admitted rules (add rs) = added admitted rules rs
  held_then admitted rules (drop place) = dropped rules place
  held_then admitted rules lock = rules
  held_then admitted rules unlock = rules
  held_then admitted rules (ask q) = rules

  -- every call of the list is allowed in its turn, and the list leaves the sheet locked
  abbrev pub leads_locked : Bool → List (Call S) → Bool
  leads_locked is_open [] = not is_open
  leads_locked is_open (c ∷ cs) = allows is_open c && leads_locked (open_then is_open c) cs

  -- the rules held after a list of calls
  abbrev pub held_from : (ℕ → ℕ → Bool) → Rules → List (Call S) → Rules
  held_from admitted rules [] = rules
  held_from admitted rules (c ∷ cs) = held_from admitted (held_then admitted rules c) cs

  -- the rules held after a list of calls from the opening, at which there are none
  abbrev pub held_after : (ℕ → ℕ → Bool) → List (Call S) → Rules
  held_after admitted cs = held_from admitted [] cs
