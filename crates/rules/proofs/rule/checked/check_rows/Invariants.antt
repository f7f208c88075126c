use Rattle.std.proofs.Common.{◌≡◌, ◌+◌, ◌≤◌, length, drop}
use Rattle.rules.specs.Checks.{met}
use Rattle.rules.proofs.rule.checked.check_rows.Given as goal

abbrev pub invariant-loop-row : goal.invariant-loop-row
invariant-loop-row g l =
    (l.row-index ≤ length l.rows)
    × (l.count ≤ l.row-index + 1)
    × (met (g.A.Alphabet.admitted l.alphabet) l.count (drop l.row-index l.rows) ≡ met (g.A.Alphabet.admitted l.alphabet) 1 l.rows)
