-- A decided order has at most one best reading.
use Rattle.std.proofs.Common.{◌≡◌, length, Some, None, Option, sym, refl, ap}
use Rattle.std.proofs.Math.Decide.{ℕ_discrete}
use mathlib.Core.HLevel.{Discrete, ×_discrete}
use mathlib.Core.List.{List-discrete}
use Rattle.rules.specs.Trees.{here}
use Rattle.rules.specs.Readings.{Reading}
use Rattle.policies.specs.Theorems.{BestUnique}

option_discrete : {A : Type 0} → Discrete A → Discrete (Option A)
option_discrete d None None = yes refl
option_discrete d None (Some b) = no (λ e. cc)
option_discrete d (Some a) None = no (λ e. cc)
option_discrete {A} d (Some a) (Some b) = go (d a b)
  where
    go : Dec (a ≡ b) → Dec (◌≡◌ {A = Option A} (Some a) (Some b))
    go (yes e) = yes (ap Some e)
    go (no n) = no (λ e. n cc)

reading_discrete : Discrete Reading
reading_discrete = List-discrete (option_discrete (×_discrete ℕ_discrete ℕ_discrete))

pub best_unique : BestUnique
best_unique above d t few w x y a b = go (reading_discrete x y)
  where
    go : Dec (x ≡ y) → x ≡ y
    go (yes e) = e
    go (no n) = absurd (d.not_both t few 0 t here w 0 (length w) x y a.reads b.reads (a.outranks y b.reads (λ e. n (sym e))) (b.outranks x a.reads n))
