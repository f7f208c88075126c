-- What a node's kind says of its number.
use Rattle.std.proofs.Common.{◌≡◌, ℕ, ◌≤◌, ◌⊎◌, inl, inr, ◌≢◌, arith, ap}
use Rattle.rules.specs.declared.kind.Kind.{Kind}
use Rattle.rules.specs.declared.kind.Kind.TheVariants.{Empty, Leaf, Choice, Sequence, Star}
use Rattle.rules.specs.Kinds.{kind_number}
use Rattle.matcher.specs.Sizes.{Paired}

pub paired : (k : Kind) (n : ℕ) → kind_number k ≡ n → (k ≡ Choice) ⊎ (k ≡ Sequence) → Paired n
paired k n e (inl f) = let x : kind_number k ≡ 2 = ap kind_number f in record { low = omega arith; high = omega arith }
paired k n e (inr f) = let x : kind_number k ≡ 3 = ap kind_number f in record { low = omega arith; high = omega arith }

pub alone : (k : Kind) (n : ℕ) → kind_number k ≡ n → (k ≡ Empty) ⊎ (k ≡ Leaf) → n ≤ 1
alone k n e (inl f) = let x : kind_number k ≡ 0 = ap kind_number f in omega arith
alone k n e (inr f) = let x : kind_number k ≡ 1 = ap kind_number f in omega arith

pub no_pair : (k : Kind) (n : ℕ) → kind_number k ≡ n → (k ≡ Empty) ⊎ ((k ≡ Leaf) ⊎ (k ≡ Star)) → (n ≢ 2) × (n ≢ 3)
no_pair k n e (inl f) = let x : kind_number k ≡ 0 = ap kind_number f in (λ y. absurd (omega arith), λ y. absurd (omega arith))
no_pair k n e (inr (inl f)) = let x : kind_number k ≡ 1 = ap kind_number f in (λ y. absurd (omega arith), λ y. absurd (omega arith))
no_pair k n e (inr (inr f)) = let x : kind_number k ≡ 4 = ap kind_number f in (λ y. absurd (omega arith), λ y. absurd (omega arith))
