-- What a sheet answers to an add and to a drop, and which rules it holds after them. Assumes nothing.
use Rattle.std.specs.Prelude.{ℕ, ◌+◌, Bool, cond, List, [], ◌∷◌, ◌++◌, length, take, drop, Some, None, Ok, Err, Option, Result, nat_le, nat_lt}
use Rattle.rules.specs.declared.row.Row.{Row}
use Rattle.rules.specs.Checks.{checks}

-- the rules held, each by its rows; a rule's place is how many stand before it
abbrev pub Rules : Type 0
Rules = List (List Row)

-- the value, unless a check was met
abbrev pub unless : {X : Type 0} → Option ℕ → X → Result X ℕ
unless None v = Ok v
unless (Some n) v = Err n

-- the new value where no check was met, else the old one
abbrev pub changed : {X : Type 0} → Option ℕ → X → X → X
changed None new old = new
changed (Some n) new old = old

-- the first check that an add of rows meets: 1, sixteen rules are held, and then those on the rows
abbrev pub add_met : (ℕ → ℕ → Bool) → Rules → List Row → Option ℕ
add_met admitted rules rs = cond (nat_le 16 (length rules)) (Some 1) (checks admitted rs)

-- an add returns the place of the rule
abbrev pub add_answer : (ℕ → ℕ → Bool) → Rules → List Row → Result ℕ ℕ
add_answer admitted rules rs = unless (add_met admitted rules rs) (length rules)

-- after an add the rule stands last
abbrev pub added : (ℕ → ℕ → Bool) → Rules → List Row → Rules
added admitted rules rs = changed (add_met admitted rules rs) (rules ++ rs ∷ []) rules

-- the check on a place: 7, it is not held
abbrev pub place_met : Rules → ℕ → Option ℕ
place_met rules place = cond (nat_lt place (length rules)) None (Some 7)

-- a drop returns nothing
abbrev pub drop_answer : Rules → ℕ → Result (Unit {0}) ℕ
drop_answer rules place = unless (place_met rules place) tt

-- after a drop the later rules stand one place lower
abbrev pub dropped : Rules → ℕ → Rules
dropped rules place = changed (place_met rules place) (take place rules ++ drop (place + 1) rules) rules
