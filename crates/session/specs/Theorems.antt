-- The theorem of this crate; it is the contract of a function. Assumes nothing.
use Rattle.std.specs.Prelude.{◌≡◌, ℕ, List}
use Rattle.session.specs.declared.line.State.{State}
use Rattle.session.specs.Served.{Session}

-- the lines decide what is printed
abbrev pub OneSession : Type 0
OneSession = (s : State) (ls : List (List ℕ)) (p q : List ℕ) → Session s ls p → Session s ls q → p ≡ q
