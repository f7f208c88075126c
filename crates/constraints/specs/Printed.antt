-- What the lines of a constraint file print, byte by byte. Assumes nothing.
use Rattle.std.specs.Prelude.{ℕ, suc, cond, List, [], ◌∷◌, ◌++◌, Some, None, Ok, Err, decimal, Option, Result, ◌==◌}
use Rattle.rules.specs.Readings.{Reading}
use Rattle.session.specs.Served.{denied}

-- a rule that is added prints nothing, another the number
abbrev pub rule_said : Result ℕ ℕ → List ℕ
rule_said (Ok place) = []
rule_said (Err n) = denied n

-- ` node:start-end` for a node with a stretch, and nothing for one without
abbrev pub entry_said : ℕ → Option (ℕ × ℕ) → List ℕ
entry_said node None = []
entry_said node (Some s) = 32 ∷ (decimal node ++ (58 ∷ (decimal s.0 ++ (45 ∷ decimal s.1))))

-- the entries of a reading, the first being that of this node
abbrev pub entries_said : ℕ → Reading → List ℕ
entries_said node [] = []
entries_said node (e ∷ r) = entry_said node e ++ entries_said (suc node) r

-- a name that is read prints the place and the reading, one that no rule reads `-`, another the number
abbrev pub name_said : Result (ℕ × Reading) ℕ → List ℕ
name_said (Ok a) = decimal a.0 ++ (entries_said 0 a.1 ++ (10 ∷ []))
name_said (Err n) = cond (n == 11) (45 ∷ 10 ∷ []) (denied n)
