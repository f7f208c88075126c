-- The visit of a whole rule makes its position sets.
use Rattle.std.proofs.Common.{◌≡◌, ℕ, ◌+◌, ◌-◌, ◌≤◌, List, [], ◌++◌, length, take, drop, replicate, sym, refl, ap, ◌∙◌, arith}
use Rattle.std.proofs.lemmas.List.{take_at, drop_at, replicate-append-replicate}
use Rattle.rules.specs.declared.row.Row.{Row}
use Rattle.rules.specs.RuleRows.{Ruled}
use Rattle.rules.specs.Trees.{Tree, leaves, Of}
use Rattle.rules.proofs.RowFacts.{few_leaves}
use Rattle.rules.proofs.Nodes.{stands_whole}
use Rattle.positions.specs.declared.sets.Positions.{Positions}
use Rattle.positions.specs.declared.sets.visit.Part.{Part}
use Rattle.positions.specs.Positions.{follow_sets, leaf_of}
use Rattle.positions.specs.SetsOf.{SetsOf}
use Rattle.positions.specs.Visits.{Placed, Visited}
use Rattle.positions.proofs.Meanings.{length_follow_sets}
use Rattle.positions.proofs.Runs.{length_leaf_of}

pub placed_whole : (rs : List Row) → Ruled rs → Placed rs 0 0
placed_whole rs h = record { tree = h.tree; stands = stands_whole rs h.tree h.of; room = omega (arith, few_leaves h.tree h.few) }

pub few_whole : (rs : List Row) (before after : List ℕ) (r : Part) → Ruled rs → Visited rs 0 0 before r after → r.next_leaf ≤ 32
few_whole rs before after r h v =
    let e : r.next_leaf ≡ 0 + leaves h.tree = ap (λ (o : Part). o.next_leaf) (v h.tree (stands_whole rs h.tree h.of)).tells in
    omega (arith, few_leaves h.tree h.few)

-- a list that is so many entries and then zeros
front : {X : Type 0} (l xs zs : List X) (n m : ℕ) → l ≡ xs ++ zs → length xs ≡ m → n ≡ m → take n l ≡ xs
front l xs zs n m e f g = ap (take n) e ∙ take_at xs zs n (f ∙ sym g)

rest : {X : Type 0} (l xs : List X) (z : X) (n m : ℕ) → l ≡ xs ++ replicate (32 - m) z → length xs ≡ m → n ≡ m → drop n l ≡ replicate (32 - n) z
rest l xs z n m e f g = ap (drop n) e ∙ drop_at xs (replicate (32 - m) z) n (f ∙ sym g) ∙ ap (λ k. replicate (32 - k) z) (sym g)

zeros_split : (m : ℕ) → m ≤ 32 → replicate {A = ℕ} 32 0 ≡ replicate m 0 ++ replicate (32 - m) 0
zeros_split m h =
    let k : 32 ≡ m + (32 - m) = omega arith in
    ap (λ j. replicate {A = ℕ} j 0) k ∙ sym (replicate-append-replicate m (32 - m) 0)

pub sets_whole : (rs : List Row) (t : Tree) (p : Positions) (r : Part) → p.nullable ≡ r.nullable → p.first ≡ r.first → p.last ≡ r.last → p.count ≡ r.next_leaf
    → Of rs t → Visited rs 0 0 (replicate 32 0) r p.follow → p.leaves ≡ leaf_of t ++ replicate (32 - leaves t) (0, 0) → SetsOf t p
sets_whole rs t p r n f l c e v ls =
    let w = v t (stands_whole rs t e) in
    let few : leaves t ≤ 32 = omega (arith, p.few, c, ap (λ (o : Part). o.next_leaf) w.tells) in
    let count_is : p.count ≡ leaves t = omega (arith, c, ap (λ (o : Part). o.next_leaf) w.tells) in
    let zeros = zeros_split (leaves t) few in
    let wrote : p.follow ≡ follow_sets t 0 ++ replicate (32 - leaves t) 0 = w.writes [] (replicate (32 - leaves t) 0) refl zeros in
    record {
      nullable_is = n ∙ ap (λ (o : Part). o.nullable) w.tells;
      first_is = f ∙ ap (λ (o : Part). o.first) w.tells;
      last_is = l ∙ ap (λ (o : Part). o.last) w.tells;
      count_is = count_is;
      follow_is = front p.follow (follow_sets t 0) (replicate (32 - leaves t) 0) p.count (leaves t) wrote (length_follow_sets t 0) count_is;
      leaves_are = front p.leaves (leaf_of t) (replicate (32 - leaves t) (0, 0)) p.count (leaves t) ls (length_leaf_of t) count_is;
      no_more_follow = rest p.follow (follow_sets t 0) 0 p.count (leaves t) wrote (length_follow_sets t 0) count_is;
      no_more_leaves = rest p.leaves (leaf_of t) (0, 0) p.count (leaves t) ls (length_leaf_of t) count_is;
    }
