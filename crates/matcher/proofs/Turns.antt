-- A loop over a range: what is left of it, and what each number that it gives is.
use Rattle.std.proofs.Common.{◌≡◌, ℕ, ◌+◌, ◌-◌, ◌<◌, ◌≤◌, refl, ap, ◌∙◌, arith}
use Rattle.std.specs.declared.ops.Range.{Range}

-- r is what is left of the range s
pub record Left (s r : Range ℕ) : Type 0 where
  pub from : s.start ≤ r.start
  pub to : r.end ≡ s.end

pub left_all : (s : Range ℕ) → Left s s
left_all s = record { from = omega arith; to = refl }

-- s goes over p, and has r left
module _ {s p r : Range ℕ} (is : s ≡ p) (left : Left s r) where
  -- it gives k, and has t left
  module _ {t : Range ℕ} {k : ℕ} (step : (t.end ≡ r.end) × ((0 < r.end - r.start) × (k ≡ r.start) × (t.start ≡ r.start + 1))) where
    pub turn_from : p.start ≤ k
    turn_from = omega (arith, left.from, step.1.1, ap (λ (x : Range ℕ). x.start) is)

    pub turn_below : k < p.end
    turn_below = omega (arith, left.to, step.1.0, step.1.1, ap (λ (x : Range ℕ). x.end) is)

    pub turn_next : k + 1 ≡ t.start
    turn_next = omega (arith, step.1.1, step.1.2)

    pub turn_left : Left s t
    turn_left = record { from = omega (arith, left.from, step.1.2); to = step.0 ∙ left.to }

  -- it gives nothing more
  pub turns_over : {t : Range ℕ} → (t.end ≡ r.end) × ((r.end - r.start ≡ 0) × (t.start ≡ r.start)) → p.end ≤ r.start
  turns_over step = omega (arith, left.to, step.1.0, ap (λ (x : Range ℕ). x.end) is)
