-- Leaves of unions, of common parts and of single leaves, by the bits of masks.
use Rattle.std.proofs.Common.{◌≡◌, ℕ, zero, suc, ◌-◌, ◌*◌, ◌/◌, ◌+◌, ◌%◌, ◌^◌, ◌<◌, ◌≤◌, min, max, Bool, true, false, cond, ◌&&◌, ◌||◌, not, eqb, sym, refl, ap, ◌∙◌, subst, ap₂, ⊎_elim, arith}
use lib.Bits.{bit_and, bit_or}
use native.Mathlib.Decide.{dec_lt, ℕ_discrete}
use Rattle.std.proofs.lemmas.Nat.{and_comm, and_le_l, or_disjoint, pow_pos, shr-shr}
use Rattle.std.proofs.lemmas.Nat.Bits.{bit_at-lt, bit_at-zero, bit_at-suc, bit_at_lowest, bit_at_and, bit_at_or, bit_at-pow_same, bit_at-pow_other, bit_at_above, bit_at-trailing_zeros, bit_at_clear_same, bit_at_clear_other, and_pow, same_from_bits}
use Rattle.std.specs.Int.{bit_at, trailing_zeros, w32}
use Rattle.std.proofs.lemmas.Bool.{true≢false, eqb-false, eq-eqb, ne_eqb, cases_Bool}
use Rattle.std.proofs.Math.Nat.{mod-eq-sub-div-mul, mod-lt}
use Rattle.std.proofs.Math.Bool.{and-true, and-false, or_assoc, and-or_distrib_right}
use Rattle.positions.specs.Positions.{member}
use Rattle.positions.specs.LeafSets.{Lowest}

-- what holds of all pairs of bits
two_bits : (P : ℕ → ℕ → Type 0) → P 0 0 → P 0 1 → P 1 0 → P 1 1 → (a b : ℕ) → a < 2 → b < 2 → P a b
two_bits P c d e f zero zero h k = c
two_bits P c d e f zero (suc zero) h k = d
two_bits P c d e f zero (suc (suc b)) h k = absurd (omega arith)
two_bits P c d e f (suc zero) zero h k = e
two_bits P c d e f (suc zero) (suc zero) h k = f
two_bits P c d e f (suc zero) (suc (suc b)) h k = absurd (omega arith)
two_bits P c d e f (suc (suc a)) b h k = absurd (omega arith)

or_of_bits : (a b : ℕ) → a < 2 → b < 2 → eqb (max a b) 1 ≡ (eqb a 1 || eqb b 1)
or_of_bits = two_bits (λ a b. eqb (max a b) 1 ≡ (eqb a 1 || eqb b 1)) refl refl refl refl

and_of_bits : (a b : ℕ) → a < 2 → b < 2 → eqb (min a b) 1 ≡ (eqb a 1 && eqb b 1)
and_of_bits = two_bits (λ a b. eqb (min a b) 1 ≡ (eqb a 1 && eqb b 1)) refl refl refl refl

same_bit : (a b : ℕ) → a < 2 → b < 2 → eqb a 1 ≡ eqb b 1 → a ≡ b
same_bit = two_bits (λ a b. eqb a 1 ≡ eqb b 1 → a ≡ b) (λ e. refl) (λ e. absurd (true≢false (sym e))) (λ e. absurd (true≢false e)) (λ e. refl)

times_bit : (b m : ℕ) → b < 2 → b * m ≡ cond (eqb b 1) m 0
times_bit zero m h = omega arith
times_bit (suc zero) m h = omega arith
times_bit (suc (suc b)) m h = absurd (omega arith)

-- whether the leaf is there, from its bit
is_one : (a p b : ℕ) → bit_at a p ≡ b → member a p ≡ eqb b 1
is_one a p b e = ap (λ z. eqb z 1) e

pub member_or : (a b p : ℕ) → member (bit_or a b) p ≡ (member a p || member b p)
member_or a b p = is_one (bit_or a b) p _ (bit_at_or a b p) ∙ or_of_bits (bit_at a p) (bit_at b p) (bit_at-lt a p) (bit_at-lt b p)

pub member_and : (a b p : ℕ) → member (bit_and a b) p ≡ (member a p && member b p)
member_and a b p = is_one (bit_and a b) p _ (bit_at_and a b p) ∙ and_of_bits (bit_at a p) (bit_at b p) (bit_at-lt a p) (bit_at-lt b p)

pub member_none : (p : ℕ) → member 0 p ≡ false
member_none p = is_one 0 p 0 (bit_at-zero p)

pub member_one : (n p : ℕ) → member (2 ^ n) p ≡ eqb p n
member_one n p = elim (ℕ_discrete p n) [
  | yes e ↦ subst (λ q. member (2 ^ n) q ≡ eqb q n) (sym e) (is_one (2 ^ n) n 1 (bit_at-pow_same n) ∙ sym (eq-eqb n n refl))
  | no ne ↦ is_one (2 ^ n) p 0 (bit_at-pow_other n p ne) ∙ sym (ne_eqb p n ne)
]

-- a set below 2 ^ n has no leaf from n on
pub member_above : (set n p : ℕ) → set < 2 ^ n → n ≤ p → member set p ≡ false
member_above set n p h le = is_one set p 0 (bit_at_above set n p h le)

pub member_below : (set n p : ℕ) → set < 2 ^ n → member set p ≡ true → p < n
member_below set n p h e = elim (dec_lt p n) [ yes lt ↦ lt | no ge ↦ absurd (true≢false (sym e ∙ member_above set n p h (omega arith))) ]

-- a set that is not empty has a leaf
some_bit : (n a : ℕ) → a ≤ n → (a ≡ 0 → ⊥) → (p : ℕ) × (member a p ≡ true)
some_bit zero a le ne = absurd (ne (omega arith))
some_bit (suc n) a le ne =
    ⊎_elim
    (λ odd. (0, is_one a 0 _ (bit_at_lowest a) ∙ odd))
    (λ even. let d = eqb-false (a % 2) 1 even in let c = some_bit n (a / 2) (omega arith) (λ z. ne (omega arith)) in (suc c.0, is_one a (suc c.0) _ (bit_at-suc a c.0) ∙ c.1))
    (cases_Bool (eqb (a % 2) 1))

pub member_some : (a : ℕ) → (a ≡ 0 → ⊥) → (p : ℕ) × (member a p ≡ true)
member_some a ne = some_bit a a (omega arith) ne

pub some_member : (a p : ℕ) → member a p ≡ true → a ≡ 0 → ⊥
some_member a p h e = true≢false (sym (ap (λ z. member z p) (sym e) ∙ h) ∙ member_none p)

-- tests with the same answer yes are the same
pub same_test : (x y : Bool) → (x ≡ true → y ≡ true) → (y ≡ true → x ≡ true) → x ≡ y
same_test true y f g = sym (f refl)
same_test false true f g = g refl
same_test false false f g = refl

no_high : (set n : ℕ) → set / 2 ^ n ≡ 0 → set < 2 ^ n
no_high set n e =
    let low : set % 2 ^ n ≡ set = mod-eq-sub-div-mul set (2 ^ n) ∙ ap (λ k. set - k * 2 ^ n) e ∙ (omega arith) in
    subst (λ k. k < 2 ^ n) low (mod-lt set (pow_pos n))

-- a set is below 2 ^ n where its leaves are below n
pub below_members : (set n : ℕ) → ((p : ℕ) → member set p ≡ true → p < n) → set < 2 ^ n
below_members set n f = elim (dec_lt set (2 ^ n)) [
  | yes lt ↦ lt
  | no ge ↦ let high = member_some (set / 2 ^ n) (λ e. ge (no_high set n e)) in absurd (omega (arith, f (n + high.0) (ap (λ z. eqb (z % 2) 1) (sym (shr-shr set n high.0)) ∙ high.1)))
]

-- sets with the same leaves are the same
pub same_leaves : (a b : ℕ) → ((p : ℕ) → member a p ≡ member b p) → a ≡ b
same_leaves a b e = same_from_bits a b (λ p. same_bit (bit_at a p) (bit_at b p) (bit_at-lt a p) (bit_at-lt b p) (e p))

-- what a union has of a set
pub or_and : (a b c : ℕ) → bit_and (bit_or a b) c ≡ bit_or (bit_and a c) (bit_and b c)
or_and a b c =
    same_leaves _ _
    (λ p. member_and (bit_or a b) c p ∙ ap (λ z. z && member c p) (member_or a b p) ∙ and-or_distrib_right (member a p) (member b p) (member c p)
    ∙ ap₂ (λ (x y : Bool). x || y) (sym (member_and a c p)) (sym (member_and b c p)) ∙ sym (member_or (bit_and a c) (bit_and b c) p))

pub or_join : (a b c : ℕ) → bit_or (bit_or a b) c ≡ bit_or a (bit_or b c)
or_join a b c =
    same_leaves _ _
    (λ p. member_or (bit_or a b) c p ∙ ap (λ z. z || member c p) (member_or a b p) ∙ or_assoc (member a p) (member b p) (member c p)
    ∙ ap (λ z. member a p || z) (sym (member_or b c p)) ∙ sym (member_or a (bit_or b c) p))

-- what one leaf has of a set
pub one_and : (p c : ℕ) → bit_and (2 ^ p) c ≡ cond (member c p) (2 ^ p) 0
one_and p c = and_comm (2 ^ p) c ∙ and_pow c p ∙ times_bit (bit_at c p) (2 ^ p) (bit_at-lt c p)

-- a test of leaf q that leaves out leaf p
but_same : (b : Bool) (p q : ℕ) → q ≡ p → (b && not (eqb q p)) ≡ false
but_same b p q e = ap (λ z. b && not z) (eq-eqb q p e) ∙ and-false b

but_other : (b : Bool) (p q : ℕ) → (q ≡ p → ⊥) → (b && not (eqb q p)) ≡ b
but_other b p q ne = ap (λ z. b && not z) (ne_eqb q p ne) ∙ and-true b

-- the lowest leaf and the others make the set
pub lowest_or : (set p rest : ℕ) → Lowest set p rest → set ≡ bit_or (2 ^ p) rest
lowest_or set p rest h = same_leaves _ _ (λ q. at q (ℕ_discrete q p) ∙ sym (member_or (2 ^ p) rest q ∙ ap₂ (λ (x y : Bool). x || y) (member_one p q) (h.others q)))
  where
    at : (q : ℕ) → Dec (q ≡ p) → member set q ≡ (eqb q p || (member set q && not (eqb q p)))
    at q (yes e) = ap (member set) e ∙ h.inside ∙ sym (ap (λ b. b || (member set q && not (eqb q p))) (eq-eqb q p e))
    at q (no ne) = sym (ap₂ (λ (x y : Bool). x || y) (ne_eqb q p ne) (but_other (member set q) p q ne))

-- the lowest leaf is none of the others, and they are the set's
pub lowest_gone : (set p rest : ℕ) → Lowest set p rest → member rest p ≡ false
lowest_gone set p rest h = h.others p ∙ but_same (member set p) p p refl

pub lowest_other : (set p rest q : ℕ) → Lowest set p rest → (q ≡ p → ⊥) → member set q ≡ member rest q
lowest_other set p rest q h ne = sym (h.others q ∙ but_other (member set q) p q ne)

-- and the others are fewer
pub lowest_less : (set p rest : ℕ) → Lowest set p rest → rest < set
lowest_less set p rest h =
    let apart : bit_and (2 ^ p) rest ≡ 0 = one_and p rest ∙ ap (λ b. cond b (2 ^ p) 0) (lowest_gone set p rest h) in
    omega (arith, lowest_or set p rest h ∙ or_disjoint (2 ^ p) rest apart, pow_pos p)

-- the lowest leaf is the lowest bit, and clearing that leaves the others
pub lowest_bit : (set : ℕ) → set < 2 ^ 32 → (set ≡ 0 → ⊥) → (trailing_zeros w32 set < 32) × Lowest set (trailing_zeros w32 set) (bit_and set (4294967295 - 1 * 2 ^ trailing_zeros w32 set % 4294967296))
lowest_bit set lt ne = (
  found.0,
  record {
    inside = is_one set t 1 found.1;
    none_below = λ q l. is_one set q 0 (found.2 q l);
    others = λ q. at q (ℕ_discrete q t) (dec_lt q 32);
  },
)
  where
    t : ℕ
    t = trailing_zeros w32 set

    rest : ℕ
    rest = bit_and set (4294967295 - 1 * 2 ^ trailing_zeros w32 set % 4294967296)

    found : (trailing_zeros w32 set < 32) × (bit_at set (trailing_zeros w32 set) ≡ 1) × ((i : ℕ) → i < trailing_zeros w32 set → bit_at set i ≡ 0)
    found = bit_at-trailing_zeros w32 set (omega arith) lt

    at : (q : ℕ) → Dec (q ≡ t) → Dec (q < 32) → member rest q ≡ (member set q && not (eqb q t))
    at q (yes e) d = ap (member rest) e ∙ is_one rest t 0 (bit_at_clear_same w32 set t found.0) ∙ sym (but_same (member set q) t q e)
    at q (no ne) (yes l) = is_one rest q (bit_at set q) (bit_at_clear_other w32 set t found.0 q l ne) ∙ sym (but_other (member set q) t q ne)
    at q (no ne) (no ge) = member_above rest 32 q (omega (arith, and_le_l set (4294967295 - 1 * 2 ^ t % 4294967296))) (omega arith) ∙ sym (but_other (member set q) t q ne ∙ member_above set 32 q lt (omega arith))
