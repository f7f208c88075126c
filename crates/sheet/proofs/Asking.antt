-- A question's answer, where what it lends is given by equations.
use Rattle.std.proofs.Common.{◌≡◌, ℕ, Bool, subst}
use Rattle.policies.specs.Orders.{Order}
use Rattle.sheet.specs.Changes.{Rules}
use Rattle.sheet.specs.Histories.{Question}
use Rattle.sheet.specs.Law.{Told, Answered}

module _ {S : Type 0} (holds : ℕ → ℕ → S → Bool) (above : Order) (rules : Rules) where
  pub asked_as : (q p : Question S) (a : Told) → q ≡ p → Answered holds above rules q a → Answered holds above rules p a
  asked_as q p a e h = subst (λ (x : Question S). Answered holds above rules x a) e h
