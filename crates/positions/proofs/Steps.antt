-- The masks, a symbol at a time, accept exactly the rule's names.
use Rattle.std.proofs.Common.{◌≡◌, ℕ, zero, suc, ◌+◌, ◌^◌, ◌<◌, true, cond, eqb, ◌↔◌, List, [], ◌∷◌, length, get_or, sym, ◌∙◌, subst, ⊎_elim, arith}
use lib.Bits.{bit_and}
use Rattle.std.proofs.lemmas.Bool.{and_parts, and_from, eqb-true, eqb-false, eq-eqb, ne_eqb, not-true, not_from_false}
use Rattle.rules.specs.Trees.{Tree, leaves}
use Rattle.rules.specs.Languages.{Sight, In}
use Rattle.positions.specs.Positions.{member, first_set, last_set, follow_sets, leaf_of, Holding, GoesOn, Runs, runs_none, runs_some}
use Rattle.positions.specs.Steps.{holders, followers, step, reach, accepts}
use Rattle.positions.proofs.Masks.{member_one, member_and, member_some, some_member}
use Rattle.positions.proofs.Local.{begins_within, follows_within}
use Rattle.positions.proofs.Meanings.{never, or_either, in_left, in_right, if_both, both_if, first_begins, after_follows}
use Rattle.positions.proofs.Runs.{length_leaf_of, runs_exactly}

-- leaf k of the list holds s
abbrev pub Holds : List (ℕ × ℕ) → ℕ → Sight → Type 0
Holds ls k s = s (get_or ls k (0, 0)).0 (get_or ls k (0, 0)).1 ≡ true

pub holders_sound : (ls : List (ℕ × ℕ)) (n : ℕ) (s : Sight) (x : ℕ) → member (holders ls n s) x ≡ true → (k : ℕ) × (x ≡ n + k) × Holds ls k s
holders_sound [] n s x h = never x h
holders_sound (l ∷ ls) n s x h =
    ⊎_elim
    (λ a. let b = if_both (s l.0 l.1) (2 ^ n) x a in let e : x ≡ n + 0 = eqb-true x n (sym (member_one n x) ∙ b.1) ∙ (omega arith) in (0, e, b.0))
    (λ a. let b = holders_sound ls (suc n) s x a in (suc b.0, omega (arith, b.1), b.2))
    (or_either (cond (s l.0 l.1) (2 ^ n) 0) (holders ls (suc n) s) x h)

pub holders_full : (ls : List (ℕ × ℕ)) (n : ℕ) (s : Sight) (k x : ℕ) → x ≡ n + k → k < length ls → Holds ls k s → member (holders ls n s) x ≡ true
holders_full [] n s k x e lt h = absurd (omega arith)
holders_full (l ∷ ls) n s zero x e lt h = in_left (cond (s l.0 l.1) (2 ^ n) 0) (holders ls (suc n) s) x (both_if (s l.0 l.1) (2 ^ n) x h (member_one n x ∙ eq-eqb x n (omega arith)))
holders_full (l ∷ ls) n s (suc k) x e lt h = in_right (cond (s l.0 l.1) (2 ^ n) 0) (holders ls (suc n) s) x (holders_full ls (suc n) s k x (omega arith) (omega arith) h)

pub followers_sound : (fs : List ℕ) (n set y : ℕ) → member (followers fs n set) y ≡ true → (k : ℕ) × (member set (n + k) ≡ true) × (member (get_or fs k 0) y ≡ true)
followers_sound [] n set y h = never y h
followers_sound (f ∷ fs) n set y h =
    ⊎_elim
    (λ a. let b = if_both (member set n) f y a in let e : n ≡ n + 0 = omega arith in (0, subst (λ m. member set m ≡ true) e b.0, b.1))
    (λ a. let b = followers_sound fs (suc n) set y a in let e : suc n + b.0 ≡ n + suc b.0 = omega arith in (suc b.0, subst (λ m. member set m ≡ true) e b.1, b.2))
    (or_either (cond (member set n) f 0) (followers fs (suc n) set) y h)

pub followers_full : (fs : List ℕ) (n set k x y : ℕ) → x ≡ n + k → member set x ≡ true → member (get_or fs k 0) y ≡ true → member (followers fs n set) y ≡ true
followers_full [] n set k x y e h g = g
followers_full (f ∷ fs) n set zero x y e h g =
    let d : x ≡ n = omega arith in
    in_left (cond (member set n) f 0) (followers fs (suc n) set) y (both_if (member set n) f y (subst (λ m. member set m ≡ true) d h) g)
followers_full (f ∷ fs) n set (suc k) x y e h g = in_right (cond (member set n) f 0) (followers fs (suc n) set) y (followers_full fs (suc n) set k x y (omega arith) h g)

and_both : (a b x : ℕ) → member (bit_and a b) x ≡ true → (member a x ≡ true) × (member b x ≡ true)
and_both a b x h = and_parts (member a x) (member b x) (sym (member_and a b x) ∙ h)

both_and : (a b x : ℕ) → member a x ≡ true → member b x ≡ true → member (bit_and a b) x ≡ true
both_and a b x h k = member_and a b x ∙ and_from (member a x) (member b x) h k

holds_at : (t : Tree) (s : Sight) (x : ℕ) → member (holders (leaf_of t) 0 s) x ≡ true → Holds (leaf_of t) x s
holds_at t s x h = let a = holders_sound (leaf_of t) 0 s x h in let e : a.0 ≡ x = omega (arith, a.1) in subst (λ k. Holds (leaf_of t) k s) e a.2

at_holds : (t : Tree) (s : Sight) (x : ℕ) → x < leaves t → Holds (leaf_of t) x s → member (holders (leaf_of t) 0 s) x ≡ true
at_holds t s x lt h = holders_full (leaf_of t) 0 s x x (omega arith) (omega (arith, length_leaf_of t)) h

-- from x on, over w, to the last set
abbrev Onward : Tree → ℕ → List Sight → Type 0
Onward t x w = (xs : List ℕ) × GoesOn t x xs × Holding (leaf_of t) xs w

reach_onward : (t : Tree) (w : List Sight) (set z : ℕ) → member (bit_and (reach t set w) (last_set t 0)) z ≡ true → (x : ℕ) × (member set x ≡ true) × Onward t x w
reach_onward t [] set z h = let a = and_both set (last_set t 0) z h in (z, a.0, ([], a.1, tt))
reach_onward t (s ∷ w) set z h =
    let a = reach_onward t w (step t set s) z h in
    let b = and_both (followers (follow_sets t 0) 0 set) (holders (leaf_of t) 0 s) a.0 a.1 in
    let c = followers_sound (follow_sets t 0) 0 set a.0 b.0 in
    let e : 0 + c.0 ≡ c.0 = omega arith in
    (c.0, subst (λ m. member set m ≡ true) e c.1, (a.0 ∷ a.2.0, (c.2, a.2.1), (holds_at t s a.0 b.1, a.2.2)))

onward_reach : (t : Tree) (w : List Sight) (set x : ℕ) (xs : List ℕ) → member set x ≡ true → GoesOn t x xs → Holding (leaf_of t) xs w → (z : ℕ) × (member (bit_and (reach t set w) (last_set t 0)) z ≡ true)
onward_reach t [] set x [] h g k = (x, both_and set (last_set t 0) x h g)
onward_reach t [] set x (y ∷ xs) h g k = elim k [ ]
onward_reach t (s ∷ w) set x [] h g k = elim k [ ]
onward_reach t (s ∷ w) set x (y ∷ xs) h g k =
    let within = (follows_within t 0 x y (after_follows t 0 x x y (omega arith) g.0)).1 in
    onward_reach t w (step t set s) y xs
    (both_and (followers (follow_sets t 0) 0 set) (holders (leaf_of t) 0 s) y (followers_full (follow_sets t 0) 0 set x x y (omega arith) h g.0) (at_holds t s y (omega arith) k.0))
    g.1 k.1

accepts_runs : (t : Tree) (w : List Sight) → accepts t w ≡ true → Runs t w
accepts_runs t [] h = runs_none h
accepts_runs t (s ∷ w) h =
    let start = bit_and (first_set t 0) (holders (leaf_of t) 0 s) in
    let end = bit_and (reach t start w) (last_set t 0) in
    let z = member_some end (eqb-false end 0 (not-true (eqb end 0) h)) in
    let a = reach_onward t w start z.0 z.1 in
    let b = and_both (first_set t 0) (holders (leaf_of t) 0 s) a.0 a.1 in
    runs_some a.0 a.2.0 b.0 a.2.1 (holds_at t s a.0 b.1, a.2.2)

some_accepts : (t : Tree) (w : List Sight) (x : ℕ) (xs : List ℕ) → member (first_set t 0) x ≡ true → GoesOn t x xs → Holding (leaf_of t) (x ∷ xs) w → accepts t w ≡ true
some_accepts t [] x xs h g k = elim k [ ]
some_accepts t (s ∷ w) x xs h g k =
    let start = bit_and (first_set t 0) (holders (leaf_of t) 0 s) in
    let end = bit_and (reach t start w) (last_set t 0) in
    let within = begins_within t 0 x (first_begins t 0 x h) in
    let z = onward_reach t w start x xs (both_and (first_set t 0) (holders (leaf_of t) 0 s) x h (at_holds t s x (omega arith) k.0)) g k.1 in
    not_from_false (eqb end 0) (ne_eqb end 0 (some_member end z.0 z.1))

runs_accepts : (t : Tree) (w : List Sight) → Runs t w → accepts t w ≡ true
runs_accepts t w (runs_none h) = h
runs_accepts t w (runs_some x xs h g k) = some_accepts t w x xs h g k

pub accepts_exactly : (t : Tree) (w : List Sight) → (accepts t w ≡ true) ↔ In t w
accepts_exactly t w = (λ h. (runs_exactly t w).0 (accepts_runs t w h), λ h. runs_accepts t w ((runs_exactly t w).1 h))
