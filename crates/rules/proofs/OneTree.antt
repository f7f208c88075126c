-- Rows are those of one tree at most, so that the tree of a rule can be taken out of its invariant.
use Rattle.std.proofs.Common.{◌≡◌, ℕ, zero, suc, ◌≤◌, List, [], ◌∷◌, ◌++◌, length, take, sym, refl, ap, ◌∙◌, append_assoc, arith, length-take}
use mathlib.Core.List.{is_set}
use mathlib.Core.HLevel.{is_prop→PathP}
use mathlib.Core.Logic.{∥∥₁_elim}
use native.Mathlib.Nat.{ℕ_set}
use Rattle.rules.specs.declared.row.Row.{Row}
use Rattle.rules.specs.Trees.{Tree, empty, leaf, choice, sequence, star, rows, size, Of}
use Rattle.rules.specs.RuleRows.{Ruled}
use Rattle.rules.proofs.RowFacts.{length_rows}

-- a node over two of the trees, or one of them, that come after it
abbrev two : (Tree → Tree → Tree) → List Tree → List Tree
two f [] = []
two f (a ∷ []) = []
two f (a ∷ b ∷ ts) = f a b ∷ ts

abbrev one : (Tree → Tree) → List Tree → List Tree
one f [] = []
one f (a ∷ ts) = f a ∷ ts

abbrev node : ℕ → ℕ → ℕ → List Tree → List Tree
node zero lo hi ts = empty ∷ ts
node (suc zero) lo hi ts = leaf lo hi ∷ ts
node (suc (suc zero)) lo hi ts = two choice ts
node (suc (suc (suc zero))) lo hi ts = two sequence ts
node (suc (suc (suc (suc zero)))) lo hi ts = one star ts
node (suc (suc (suc (suc (suc k))))) lo hi ts = ts

abbrev pub trees : List Row → List Tree
trees [] = []
trees (r ∷ rs) = node r.kind r.lo r.hi (trees rs)

pub trees_rows : (t : Tree) (rs : List Row) → trees (rows t ++ rs) ≡ t ∷ trees rs
trees_rows empty rs = refl
trees_rows (leaf lo hi) rs = refl
trees_rows (choice p q) rs = ap (λ l. two choice (trees l)) (append_assoc (rows p) (rows q) rs) ∙ ap (two choice) (trees_rows p (rows q ++ rs) ∙ ap (λ l. p ∷ l) (trees_rows q rs))
trees_rows (sequence p q) rs = ap (λ l. two sequence (trees l)) (append_assoc (rows p) (rows q) rs) ∙ ap (two sequence) (trees_rows p (rows q ++ rs) ∙ ap (λ l. p ∷ l) (trees_rows q rs))
trees_rows (star p) rs = ap (one star) (trees_rows p rs)

abbrev first : List Tree → Tree
first [] = empty
first (t ∷ ts) = t

-- one tree at most has given rows
pub one_tree : (t u : Tree) → rows t ≡ rows u → t ≡ u
one_tree t u e = ap first (sym (trees_rows t []) ∙ ap (λ l. trees (l ++ [])) e ∙ trees_rows u [])

row_set : IsSet Row
row_set = λ x y p q. λ i j. record {
  kind = ℕ_set x.kind y.kind (ap (λ (r : Row). r.kind) p) (ap (λ (r : Row). r.kind) q) i j;
  lo = ℕ_set x.lo y.lo (ap (λ (r : Row). r.lo) p) (ap (λ (r : Row). r.lo) q) i j;
  hi = ℕ_set x.hi y.hi (ap (λ (r : Row). r.hi) p) (ap (λ (r : Row). r.hi) q) i j;
}

-- that rows are those of a tree has one proof
of_prop : (rs : List Row) → IsProp ((t : Tree) × Of rs t)
of_prop rs x y =
    let p : x.0 ≡ y.0 = one_tree x.0 y.0 (sym x.1 ∙ y.1) in
    λ i. (p i, is_prop→PathP (λ j. rs ≡ rows (p j)) (λ j. is_set row_set rs (rows (p j))) x.1 y.1 i)

pub the_tree : (rs : List Row) → ∥ ((t : Tree) × Of rs t) ∥₁ → (t : Tree) × Of rs t
the_tree rs h = ∥∥₁_elim h (of_prop rs) (λ r. r)

pub ruled : (all : List Row) (len : ℕ) → len ≤ 64 → ∥ ((t : Tree) × Of (take len all) t) ∥₁ → Ruled (take len all)
ruled all len few h =
    let t = the_tree (take len all) h in
    let e : length (take len all) ≡ size t.0 = ap length t.1 ∙ length_rows t.0 in
    record { tree = t.0; of = t.1; few = omega (arith, length-take len all) }
