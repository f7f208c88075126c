-- The place of a cell in the bench.
use Rattle.std.proofs.Common.{◌≡◌, ℕ, ◌+◌, ◌*◌, ◌/◌, ◌%◌, ◌<◌, ◌≤◌, List, length, sym, ap, ◌∙◌, mul_comm, arith}
use Rattle.std.proofs.lemmas.Nat.{mul-add-lt, div-mul-add, mod-mul-add}
use Rattle.matcher.specs.Unpacking.{place}
use Rattle.matcher.specs.Benches.{Room}

pub place_below : (nodes n m i j : ℕ) → m < nodes → i ≤ n → j ≤ n → place n m i j < nodes * (n + 1) * (n + 1)
place_below nodes n m i j hm hi hj =
    let a : m * (n + 1) + i < (n + 1) * nodes = mul-add-lt m (n + 1) i nodes hm (omega arith) in
    let b : (m * (n + 1) + i) * (n + 1) + j < (n + 1) * ((n + 1) * nodes) = mul-add-lt (m * (n + 1) + i) (n + 1) j ((n + 1) * nodes) a (omega arith) in
    omega (arith, mul_comm (n + 1) ((n + 1) * nodes), ap (λ k. k * (n + 1)) (mul_comm (n + 1) nodes))

pub place_in : (nodes n : ℕ) (bs : List ℕ) (m i j : ℕ) → Room nodes n bs → m < nodes → i ≤ n → j ≤ n → place n m i j < length bs
place_in nodes n bs m i j r hm hi hj = omega (arith, place_below nodes n m i j hm hi hj)

-- the cells of two equal places are the same
pub record Same (m i j m' i' j' : ℕ) : Type 0 where
  pub node : m ≡ m'
  pub start : i ≡ i'
  pub end : j ≡ j'

pub same_cell : (n m i j m' i' j' : ℕ) → i ≤ n → j ≤ n → i' ≤ n → j' ≤ n → place n m i j ≡ place n m' i' j' → Same m i j m' i' j'
same_cell n m i j m' i' j' hi hj hi' hj' e =
    let a : m * (n + 1) + i ≡ m' * (n + 1) + i' = sym (div-mul-add (m * (n + 1) + i) (n + 1) j (omega arith)) ∙ (ap (λ k. k / (n + 1)) e ∙ div-mul-add (m' * (n + 1) + i') (n + 1) j' (omega arith)) in
    record {
      node = sym (div-mul-add m (n + 1) i (omega arith)) ∙ (ap (λ k. k / (n + 1)) a ∙ div-mul-add m' (n + 1) i' (omega arith));
      start = sym (mod-mul-add m (n + 1) i (omega arith)) ∙ (ap (λ k. k % (n + 1)) a ∙ mod-mul-add m' (n + 1) i' (omega arith));
      end = sym (mod-mul-add (m * (n + 1) + i) (n + 1) j (omega arith)) ∙ (ap (λ k. k % (n + 1)) e ∙ mod-mul-add (m' * (n + 1) + i') (n + 1) j' (omega arith));
    }
