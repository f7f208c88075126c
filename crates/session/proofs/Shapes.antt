-- Lines, as the patterns take them apart.
use Rattle.std.proofs.Common.{◌≡◌, ℕ, ◌-◌, ◌<◌, List, [], ◌∷◌, length, get_or, take, drop, codes, ap, arith, take_all}

-- a line of five bytes
pub record Five (l : List ℕ) (a b c d e : ℕ) : Type 0 where
  pub long : length l ≡ 5
  pub first : get_or l 0 0 ≡ a
  pub second : get_or l 1 0 ≡ b
  pub third : get_or l 2 0 ≡ c
  pub fourth : get_or l 3 0 ≡ d
  pub fifth : get_or l 4 0 ≡ e

pub posix_is : {l : List ℕ} → l ≡ codes "posix" → Five l 112 111 115 105 120
posix_is e = record { long = ap length e; first = ap (λ (x : List ℕ). get_or x 0 0) e; second = ap (λ (x : List ℕ). get_or x 1 0) e; third = ap (λ (x : List ℕ). get_or x 2 0) e; fourth = ap (λ (x : List ℕ). get_or x 3 0) e; fifth = ap (λ (x : List ℕ). get_or x 4 0) e }

pub first_is : {l : List ℕ} → l ≡ codes "first" → Five l 102 105 114 115 116
first_is e = record { long = ap length e; first = ap (λ (x : List ℕ). get_or x 0 0) e; second = ap (λ (x : List ℕ). get_or x 1 0) e; third = ap (λ (x : List ℕ). get_or x 2 0) e; fourth = ap (λ (x : List ℕ). get_or x 3 0) e; fifth = ap (λ (x : List ℕ). get_or x 4 0) e }

-- a line that begins with two bytes
pub two_is : (l : List ℕ) (a b : ℕ) → 1 < length l → get_or l 0 0 ≡ a → get_or l 1 0 ≡ b → l ≡ a ∷ b ∷ take (length l - 2) (drop 2 l)
two_is [] a b h e f = absurd (omega arith)
two_is (x ∷ []) a b h e f = absurd (omega arith)
two_is (x ∷ y ∷ l) a b h e f =
    let g : take (length (x ∷ y ∷ l) - 2) l ≡ l = take_all _ _ (omega arith) in
    rw (g, e, f)

pub two_from : {l x : List ℕ} {a b : ℕ} → l ≡ a ∷ b ∷ x → (1 < length l) × (get_or l 0 0 ≡ a) × (get_or l 1 0 ≡ b)
two_from {l} {x} {a} {b} e = (let n : length l ≡ length (a ∷ b ∷ x) = ap length e in omega arith, ap (λ (y : List ℕ). get_or y 0 0) e, ap (λ (y : List ℕ). get_or y 1 0) e)
