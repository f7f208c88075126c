-- What the functions that serve a name promise one another. Assumes nothing.
use Rattle.std.specs.Prelude.{◌≡◌, ℕ, List, Result}
use Rattle.rules.specs.Readings.{Reading}
use Rattle.policies.specs.Orders.{Order}
use Rattle.sheet.specs.Changes.{Rules}
use Rattle.constraints.specs.Printed.{name_said}
use Rattle.constraints.specs.Served.{NameAnswered}

-- the line says the answer to the name
pub record SaysAnswer (above : Order) (rules : Rules) (bench : ℕ) (name line : List ℕ) : Type 0 where
  pub answer : Result (ℕ × Reading) ℕ
  pub answered : NameAnswered above rules bench name answer
  pub said : line ≡ name_said answer
