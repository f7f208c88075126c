-- What a spans reports, in the words of a relation that derives readings. Assumes nothing.
use Rattle.std.specs.Prelude.{◌≡◌, ◌↔◌, List, length, take, Ok, Err, Result}
use Rattle.rules.specs.declared.row.Row.{Row}
use Rattle.rules.specs.declared.denial.Denial.{Denial}
use Rattle.rules.specs.Denials.{numbered}
use Rattle.rules.specs.Trees.{Tree, Of}
use Rattle.rules.specs.Languages.{Sight, In}
use Rattle.rules.specs.Readings.{Reading}
use Rattle.policies.specs.Theorems.{Relation}

-- a spans reports x exactly where the relation derives x for the name, and is denied with 11 exactly where the name is outside the language
pub record Published (derives : Relation) (rs : List Row) (w : List Sight) (report' : Reading) (r : Result (Unit {0}) Denial) : Type 0 where
  pub exactly : (x : Reading) → ((r ≡ Ok tt) × (take (length rs) report' ≡ x)) ↔ ((t : Tree) × Of rs t × derives w t 0 (length w) x)
  pub denied : (numbered r ≡ Err 11) ↔ ((t : Tree) → Of rs t → In t w → ⊥)
