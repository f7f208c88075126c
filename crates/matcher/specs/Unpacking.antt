-- The reading that the codes in a bench stand for. Assumes nothing.
use Rattle.std.specs.Prelude.{ℕ, ◌+◌, ◌-◌, ◌*◌, ◌≤◌, min, cond, List, [], ◌∷◌, ◌++◌, Some, None, Option, ◌==◌, slice_index}
use Rattle.rules.specs.Trees.{Tree, empty, leaf, choice, sequence, star, size}
use Rattle.rules.specs.Readings.{Reading}

-- where the cell of a node and a stretch stands in the bench of a name of n symbols
abbrev pub place : ℕ → ℕ → ℕ → ℕ → ℕ
place n m i j = (m * (n + 1) + i) * (n + 1) + j

-- the cell of node m and the stretch from i to j
abbrev pub cell : ℕ → List ℕ → ℕ → ℕ → ℕ → ℕ
cell n bs m i j = slice_index bs (place n m i j)

-- a stretch that lies in a name of n symbols, if there is one
abbrev pub Within : ℕ → Option (ℕ × ℕ) → Type 0
Within n None = Unit {0}
Within n (Some s) = (s.0 ≤ s.1) × (s.1 ≤ n)

-- where a sequence's code cuts the stretch from i to j: 1 at i, and each next code one symbol on
abbrev pub cut : ℕ → ℕ → ℕ → ℕ
cut i j code = min (i + (code - 1)) j

-- the stretch of the first part: up to the cut of a sequence, all at a choice by code 1
abbrev pub first_share : ℕ → Option (ℕ × ℕ) → ℕ → Option (ℕ × ℕ)
first_share kind None code = None
first_share kind (Some s) code = cond (kind == 3) (Some (s.0, cut s.0 s.1 code)) (cond (code == 1) (Some s) None)

-- the stretch of the second part: from the cut of a sequence on, all at a choice by another code
abbrev pub second_share : ℕ → Option (ℕ × ℕ) → ℕ → Option (ℕ × ℕ)
second_share kind None code = None
second_share kind (Some s) code = cond (kind == 3) (Some (cut s.0 s.1 code, s.1)) (cond (code == 1) None (Some s))

-- the code in the bench for a node's stretch
abbrev pub code_at : ℕ → List ℕ → ℕ → Option (ℕ × ℕ) → ℕ
code_at n bs m None = 0
code_at n bs m (Some s) = cell n bs m s.0 s.1

-- the reading that the bench holds for the tree at node m on a stretch, where the node's own code is given
abbrev pub unpacked : ℕ → List ℕ → Tree → ℕ → Option (ℕ × ℕ) → ℕ → Reading
unpacked n bs empty m o c = o ∷ []
unpacked n bs (leaf lo hi) m o c = o ∷ []
unpacked n bs (choice p q) m o c = o ∷ (unpacked n bs p (m + 1) (first_share 2 o c) (code_at n bs (m + 1) (first_share 2 o c)) ++ unpacked n bs q (m + 1 + size p) (second_share 2 o c) (code_at n bs (m + 1 + size p) (second_share 2 o c)))
unpacked n bs (sequence p q) m o c = o ∷ (unpacked n bs p (m + 1) (first_share 3 o c) (code_at n bs (m + 1) (first_share 3 o c)) ++ unpacked n bs q (m + 1 + size p) (second_share 3 o c) (code_at n bs (m + 1 + size p) (second_share 3 o c)))
unpacked n bs (star p) m o c = o ∷ unpacked n bs p (m + 1) None 0
