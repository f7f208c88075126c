-- The theorem of this crate; it is the contract of a function. Assumes nothing.
use Rattle.std.specs.Prelude.{◌≡◌, ℕ, List}
use Rattle.policies.specs.declared.named.NamedPolicy.{NamedPolicy}
use Rattle.sheet.specs.Changes.{Rules}
use Rattle.session.specs.declared.line.State.{State}
use Rattle.constraints.specs.Served.{Session}

-- from one state, policy and list of rules, the lines decide what is printed
abbrev pub OneSession : Type 0
OneSession = (bench : ℕ) (s : State) (q : NamedPolicy) (rules : Rules) (ls : List (List ℕ)) (p p' : List ℕ) → Session bench s q rules ls p → Session bench s q rules ls p' → p ≡ p'
