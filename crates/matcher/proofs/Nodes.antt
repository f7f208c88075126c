-- Where the parts of a node stand among the rows.
use Rattle.std.proofs.Common.{◌≡◌, ℕ, zero, suc, ◌+◌, ◌-◌, ◌<◌, ◌≤◌, List, length, get_or, set, replicate, refl, ap, ◌∙◌, subst, arith}
use native.Mathlib.Decide.{dec_lt, ℕ_discrete}
use Rattle.std.proofs.lemmas.List.{get_or-set_same, get_or-set_other, length-set, length-replicate}
use Rattle.rules.specs.declared.row.Row.{Row}
use Rattle.rules.specs.Trees.{Tree, empty, leaf, choice, sequence, star, row, size}
use Rattle.rules.specs.RuleRows.{Ruled}
use Rattle.rules.proofs.RowFacts.{length_rows}
use Rattle.rules.specs.Kinds.{kind_number}
use Rattle.rules.specs.Nodes.{Stands}
use Rattle.rules.proofs.Nodes.{size_positive, stands_whole, stands_within, choice_first, choice_second, sequence_first, sequence_second, star_part, kind_of, kind_known}
use Rattle.rules.proofs.Nodes.{kind_is as kind_at_is}
use Rattle.matcher.specs.Sizes.{SizedFrom, Sized, PairRoom}

pub record Found (rs : List Row) (m : ℕ) : Type 0 where
  pub tree : Tree
  pub stands : Stands rs m tree

moved : (rs : List Row) (a b : ℕ) → a ≡ b → Found rs a → Found rs b
moved rs a b e f = let P : ℕ → Type 0 = λ k. Found rs k in subst P e f

here : (rs : List Row) (b : ℕ) (t : Tree) → Stands rs b t → Found rs (b + 0)
here rs b t h = moved rs b (b + 0) (omega arith) (record { tree = t; stands = h })

either_part : (rs : List Row) (b a m : ℕ) (l : ℕ) → m < a + l → (m < a → Found rs (b + 1 + m)) → (m - a < l → Found rs (b + 1 + a + (m - a))) → Found rs (b + suc m)
either_part rs b a m l h f g =
    elim (dec_lt m a) [ yes u ↦ moved rs (b + 1 + m) (b + suc m) (omega arith) (f u) | no u ↦ moved rs (b + 1 + a + (m - a)) (b + suc m) (omega arith) (g (omega arith)) ]

pub find : (rs : List Row) (t : Tree) (b : ℕ) → Stands rs b t → (m : ℕ) → m < size t → Found rs (b + m)
find rs empty b h zero l = here rs b empty h
find rs empty b h (suc m) l = absurd (omega arith)
find rs (leaf lo hi) b h zero l = here rs b (leaf lo hi) h
find rs (leaf lo hi) b h (suc m) l = absurd (omega arith)
find rs (choice p q) b h zero l = here rs b (choice p q) h
find rs (choice p q) b h (suc m) l =
    either_part rs b (size p) m (size q) (omega arith) (find rs p (b + 1) (choice_first rs b p q h) m) (find rs q (b + 1 + size p) (choice_second rs b p q h) (m - size p))
find rs (sequence p q) b h zero l = here rs b (sequence p q) h
find rs (sequence p q) b h (suc m) l =
    either_part rs b (size p) m (size q) (omega arith) (find rs p (b + 1) (sequence_first rs b p q h) m) (find rs q (b + 1 + size p) (sequence_second rs b p q h) (m - size p))
find rs (star p) b h zero l = here rs b (star p) h
find rs (star p) b h (suc m) l = moved rs (b + 1 + m) (b + suc m) (omega arith) (find rs p (b + 1) (star_part rs b p h) m (omega arith))

pub found : (rs : List Row) → Ruled rs → (m : ℕ) → m < length rs → Found rs m
found rs r m l =
    let e : length rs ≡ size r.tree = ap length r.of ∙ length_rows r.tree in
    moved rs (0 + m) m (omega arith) (find rs r.tree 0 (stands_whole rs r.tree r.of) m (omega arith))

abbrev pub kind_at : List Row → ℕ → ℕ
kind_at rs m = (get_or rs m (row 0 0 0)).kind

pub kind_is : (rs : List Row) (m : ℕ) (s : Tree) → Stands rs m s → kind_at rs m ≡ kind_number (kind_of s)
kind_is rs m s h = kind_at_is rs m (row 0 0 0) s h

-- a rule has no kind over 4
pub kind_small : (rs : List Row) → Ruled rs → (m : ℕ) → m < length rs → kind_at rs m ≤ 4
kind_small rs r m l =
    let f = found rs r m l in
    let k = kind_known rs m (row 0 0 0) f.tree f.stands in
    elim (dec_lt 4 (kind_at rs m)) [ yes u ↦ absurd (k u) | no u ↦ omega arith ]

-- a node with two parts, with what the table of sizes says of them
pub record Pair (rs : List Row) (table : List ℕ) (m : ℕ) (s : Tree) : Type 0 where
  pub first : Tree
  pub second : Tree
  pub first_size : get_or table (m + 1) 0 ≡ size first
  pub second_size : get_or table (m + 1 + size first) 0 ≡ size second
  pub whole : size s ≡ 1 + size first + size second
  pub within : m + 1 + size first + size second ≤ length rs
  pub first_some : 0 < size first
  pub second_some : 0 < size second

pair : (rs : List Row) (table : List ℕ) (m : ℕ) (s p q : Tree) → SizedFrom rs (m + 1) table → Stands rs (m + 1) p → Stands rs (m + 1 + size p) q → size s ≡ suc (size p + size q) → Pair rs table m s
pair rs table m s p q z a b e = record {
  first = p;
  second = q;
  first_size = z.sizes (m + 1) p (omega arith) a;
  second_size = z.sizes (m + 1 + size p) q (omega arith) b;
  whole = omega arith;
  within = stands_within rs (m + 1 + size p) q b;
  first_some = size_positive p;
  second_some = size_positive q;
}

pub as_pair : (rs : List Row) (table : List ℕ) (m : ℕ) → SizedFrom rs (m + 1) table → 1 < kind_at rs m → kind_at rs m ≤ 3 → (s : Tree) → Stands rs m s → Pair rs table m s
as_pair rs table m z l u empty h = absurd (omega (arith, kind_is rs m empty h))
as_pair rs table m z l u (leaf lo hi) h = absurd (omega (arith, kind_is rs m (leaf lo hi) h))
as_pair rs table m z l u (choice p q) h = pair rs table m (choice p q) p q z (choice_first rs m p q h) (choice_second rs m p q h) refl
as_pair rs table m z l u (sequence p q) h = pair rs table m (sequence p q) p q z (sequence_first rs m p q h) (sequence_second rs m p q h) refl
as_pair rs table m z l u (star p) h = absurd (omega (arith, kind_is rs m (star p) h))

pub small : (rs : List Row) (m : ℕ) → kind_at rs m ≤ 1 → (s : Tree) → Stands rs m s → 1 ≡ size s
small rs m l empty h = refl
small rs m l (leaf lo hi) h = refl
small rs m l (choice p q) h = absurd (omega (arith, kind_is rs m (choice p q) h))
small rs m l (sequence p q) h = absurd (omega (arith, kind_is rs m (sequence p q) h))
small rs m l (star p) h = absurd (omega (arith, kind_is rs m (star p) h))

-- a node with one part
pub record Single (rs : List Row) (table : List ℕ) (m : ℕ) (s : Tree) : Type 0 where
  pub part : Tree
  pub part_size : get_or table (m + 1) 0 ≡ size part
  pub whole : size s ≡ 1 + size part
  pub within : m + 1 + size part ≤ length rs
  pub some : 0 < size part

pub as_single : (rs : List Row) (table : List ℕ) (m : ℕ) → SizedFrom rs (m + 1) table → 3 < kind_at rs m → (s : Tree) → Stands rs m s → Single rs table m s
as_single rs table m z l empty h = absurd (omega (arith, kind_is rs m empty h))
as_single rs table m z l (leaf lo hi) h = absurd (omega (arith, kind_is rs m (leaf lo hi) h))
as_single rs table m z l (choice p q) h = absurd (omega (arith, kind_is rs m (choice p q) h))
as_single rs table m z l (sequence p q) h = absurd (omega (arith, kind_is rs m (sequence p q) h))
as_single rs table m z l (star p) h = record {
  part = p;
  part_size = z.sizes (m + 1) p (omega arith) (star_part rs m p h);
  whole = omega arith;
  within = stands_within rs (m + 1) p (star_part rs m p h);
  some = size_positive p;
}

pub sized_none : (rs : List Row) → SizedFrom rs (length rs) (replicate 64 0)
sized_none rs = record {
  long = length-replicate {A = ℕ} 64 0;
  sizes = λ m s l h. absurd (omega (arith, stands_within rs m s h, size_positive s));
}

pub sized_more : (rs : List Row) (table : List ℕ) (k r : ℕ) → SizedFrom rs k table → k - 1 < 64 → ((s : Tree) → Stands rs (k - 1) s → r ≡ size s) → SizedFrom rs (k - 1) (set table (k - 1) r)
sized_more rs table k r z u f = record {
  long = length-set table (k - 1) r ∙ z.long;
  sizes = λ m s l h. elim (ℕ_discrete m (k - 1)) [ yes e ↦ same m s e h | no e ↦ other m s l e h ];
}
  where
    same : (m : ℕ) (s : Tree) → m ≡ k - 1 → Stands rs m s → get_or (set table (k - 1) r) m 0 ≡ size s
    same m s e h =
        let P : ℕ → Type 0 = λ i. Stands rs i s in
        let b : k - 1 < length table = omega (arith, z.long) in
        rw e (get_or-set_same table (k - 1) r 0 b ∙ f s (subst P e h))

    other : (m : ℕ) (s : Tree) → k - 1 ≤ m → (m ≡ k - 1 → ⊥) → Stands rs m s → get_or (set table (k - 1) r) m 0 ≡ size s
    other m s l e h = get_or-set_other table (k - 1) m r 0 e ∙ z.sizes m s (omega arith) h

pub later : (rs : List Row) (table : List ℕ) (a b : ℕ) → a ≤ b → SizedFrom rs a table → SizedFrom rs b table
later rs table a b l z = record { long = z.long; sizes = λ m s u h. z.sizes m s (omega arith) h }

pub own_size : (rs : List Row) (table : List ℕ) (m : ℕ) → Ruled rs → Sized rs table → m < length rs → 0 < get_or table m 0
own_size rs table m r z l =
    let f = found rs r m l in
    omega (arith, z.sizes m f.tree (omega arith) f.stands, size_positive f.tree)

pub pair_room : (rs : List Row) (table : List ℕ) (m : ℕ) → Ruled rs → Sized rs table → m < length rs → 1 < kind_at rs m → kind_at rs m ≤ 3 → PairRoom rs table m
pair_room rs table m r z l a b =
    let f = found rs r m l in
    let p = as_pair rs table m (later rs table 0 (m + 1) (omega arith) z) a b f.tree f.stands in
    let o = z.sizes m f.tree (omega arith) f.stands in
    let e : get_or table (m + 1 + get_or table (m + 1) 0) 0 ≡ size p.second = rw p.first_size p.second_size in
    record { own = omega arith; first_some = omega arith; second_some = omega arith; within = omega arith }

pub record SingleRoom (rs : List Row) (table : List ℕ) (m : ℕ) : Type 0 where
  pub own : get_or table m 0 ≡ 1 + get_or table (m + 1) 0
  pub some : 0 < get_or table (m + 1) 0
  pub within : m + 1 + get_or table (m + 1) 0 ≤ length rs

pub single_room : (rs : List Row) (table : List ℕ) (m : ℕ) → Ruled rs → Sized rs table → m < length rs → 3 < kind_at rs m → SingleRoom rs table m
single_room rs table m r z l a =
    let f = found rs r m l in
    let p = as_single rs table m (later rs table 0 (m + 1) (omega arith) z) a f.tree f.stands in
    let o = z.sizes m f.tree (omega arith) f.stands in
    record { own = omega arith; some = omega arith; within = omega arith }

pub size_bound : (rs : List Row) (table : List ℕ) (m : ℕ) → Ruled rs → Sized rs table → m < length rs → get_or table m 0 ≤ length rs
size_bound rs table m r z l =
    let f = found rs r m l in
    omega (arith, z.sizes m f.tree (omega arith) f.stands, stands_within rs m f.tree f.stands)

pub few_entries : (rs : List Row) (table : List ℕ) (m : ℕ) → Ruled rs → Sized rs table → m < length rs → length rs ≤ 64 → get_or table m 0 ≤ 64
few_entries rs table m r z l few = omega (arith, size_bound rs table m r z l)
