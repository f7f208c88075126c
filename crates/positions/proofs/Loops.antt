-- Going through the leaves of a set: what is found, and what is found at the leaves that are left.
use Rattle.std.proofs.Common.{◌≡◌, ℕ, ◌+◌, ◌-◌, ◌^◌, ◌<◌, ◌≤◌, suc, Bool, true, false, cond, ◌||◌, not, List, [], ◌∷◌, length, get_or, take, drop, replicate, sym, refl, ap, ◌∙◌, subst, ap₂, ⊎_elim, arith, length-take}
use native.Mathlib.Decide.{dec_lt, ℕ_discrete}
use lib.Bits.{bit_and, bit_or, and_zero_l, or_zero_r}
use Rattle.std.proofs.lemmas.List.{get_or-take, get_or-drop, get_or_past, get_or-replicate, length-take-le, length-replicate}
use Rattle.std.proofs.lemmas.Bool.{and_parts, and_from, ne_eqb}
use Rattle.rules.specs.Languages.{Sight}
use Rattle.positions.specs.Positions.{member}
use Rattle.positions.specs.LeafSets.{Lowest}
use Rattle.positions.specs.Steps.{holders, followers}
use Rattle.positions.proofs.Masks.{member_none, member_one, member_or, same_leaves, same_test, or_join, or_and, one_and, lowest_or}
use Rattle.positions.proofs.Meanings.{never, or_either, in_left, in_right}
use Rattle.positions.proofs.Steps.{Holds, holders_sound, holders_full, followers_sound, followers_full}

-- whether leaf p is among those that hold
member_holders : (ls : List (ℕ × ℕ)) (s : Sight) (p : ℕ) → p < length ls → member (holders ls 0 s) p ≡ s (get_or ls p (0, 0)).0 (get_or ls p (0, 0)).1
member_holders ls s p lt =
    same_test _ _
    (λ h. let a = holders_sound ls 0 s p h in let e : a.0 ≡ p = omega (arith, a.1) in subst (λ k. Holds ls k s) e a.2)
    (λ h. holders_full ls 0 s p p (omega arith) lt h)

-- behind the list there is none
no_holder : (ls : List (ℕ × ℕ)) (n : ℕ) (s : Sight) (p : ℕ) → n + length ls ≤ p → member (holders ls n s) p ≡ false
no_holder [] n s p le = member_none p
no_holder (l ∷ ls) n s p le = member_or (cond (s l.0 l.1) (2 ^ n) 0) (holders ls (suc n) s) p ∙ ap₂ (λ (x y : Bool). x || y) (own (s l.0 l.1)) (no_holder ls (suc n) s p (omega arith))
  where
    own : (b : Bool) → member (cond b (2 ^ n) 0) p ≡ false
    own true = member_one n p ∙ ne_eqb p n (omega arith)
    own false = member_none p

-- among the first n leaves, leaf p holds if it does in the whole list, and none from n on does
pub held_front : (ls : List (ℕ × ℕ)) (s : Sight) (n p : ℕ) (b : Bool) → n ≤ length ls → p < n → b ≡ s (get_or ls p (0, 0)).0 (get_or ls p (0, 0)).1 → b ≡ member (holders (take n ls) 0 s) p
held_front ls s n p b le lt e = e ∙ sym (member_holders (take n ls) s p (omega (arith, length-take-le n ls le)) ∙ ap (λ (l : ℕ × ℕ). s l.0 l.1) (get_or-take n ls p (0, 0) lt))

pub held_past : (ls : List (ℕ × ℕ)) (s : Sight) (n p : ℕ) → n ≤ length ls → n ≤ p → false ≡ member (holders (take n ls) 0 s) p
held_past ls s n p le ge = sym (no_holder (take n ls) 0 s p (omega (arith, length-take-le n ls le)))

-- the leaves of the set that hold: those found, and those among the leaves that are left
abbrev pub HoldersLeft : List (ℕ × ℕ) → Sight → ℕ → ℕ → ℕ → Type 0
HoldersLeft ls s set held left = bit_or held (bit_and left (holders ls 0 s)) ≡ bit_and set (holders ls 0 s)

pub holders_turn : (ls : List (ℕ × ℕ)) (s : Sight) (set held r left p rest : ℕ) (b : Bool) → Lowest left p rest
    → b ≡ member (holders ls 0 s) p → r ≡ bit_or held (cond b (2 ^ p) 0) → HoldersLeft ls s set held left → HoldersLeft ls s set r rest
holders_turn ls s set held r left p rest b low e f h =
    let H = holders ls 0 s in
    let own : bit_and (2 ^ p) H ≡ cond b (2 ^ p) 0 = one_and p H ∙ ap (λ z. cond z (2 ^ p) 0) (sym e) in
    let parts : bit_and left H ≡ bit_or (cond b (2 ^ p) 0) (bit_and rest H) = ap (λ z. bit_and z H) (lowest_or left p rest low) ∙ or_and (2 ^ p) rest H ∙ ap (λ z. bit_or z (bit_and rest H)) own in
    ap (λ z. bit_or z (bit_and rest H)) f ∙ or_join held (cond b (2 ^ p) 0) (bit_and rest H) ∙ ap (bit_or held) (sym parts) ∙ h

pub holders_end : (ls : List (ℕ × ℕ)) (s : Sight) (set held left : ℕ) → left ≡ 0 → HoldersLeft ls s set held left → held ≡ bit_and set (holders ls 0 s)
holders_end ls s set held left e h = sym (ap (λ z. bit_or held (bit_and z (holders ls 0 s))) e ∙ ap (bit_or held) (and_zero_l (holders ls 0 s)) ∙ or_zero_r held) ∙ h

-- the leaves that follow one of the set: those of its lowest, and those of the others
followers_lowest : (fs : List ℕ) (set p rest : ℕ) → Lowest set p rest → followers fs 0 set ≡ bit_or (get_or fs p 0) (followers fs 0 rest)
followers_lowest fs set p rest low = same_leaves _ _ (λ y. same_test _ _ (there y) (back y))
  where
    there : (y : ℕ) → member (followers fs 0 set) y ≡ true → member (bit_or (get_or fs p 0) (followers fs 0 rest)) y ≡ true
    there y h =
        let c = followers_sound fs 0 set y h in
        elim (ℕ_discrete (0 + c.0) p) [
          | yes e ↦ let k : c.0 ≡ p = omega arith in in_left (get_or fs p 0) (followers fs 0 rest) y (subst (λ k. member (get_or fs k 0) y ≡ true) k c.2)
          | no ne ↦ in_right (get_or fs p 0) (followers fs 0 rest) y (followers_full fs 0 rest c.0 (0 + c.0) y refl (low.others (0 + c.0) ∙ and_from (member set (0 + c.0)) _ c.1 (ap not (ne_eqb (0 + c.0) p ne))) c.2)
        ]

    back : (y : ℕ) → member (bit_or (get_or fs p 0) (followers fs 0 rest)) y ≡ true → member (followers fs 0 set) y ≡ true
    back y h =
        ⊎_elim
        (λ a. followers_full fs 0 set p p y (omega arith) low.inside a)
        (λ a. let c = followers_sound fs 0 rest y a in followers_full fs 0 set c.0 (0 + c.0) y refl (and_parts (member set (0 + c.0)) _ (sym (low.others (0 + c.0)) ∙ c.1)).0 c.2)
        (or_either (get_or fs p 0) (followers fs 0 rest) y h)

abbrev pub FollowersLeft : List ℕ → ℕ → ℕ → ℕ → Type 0
FollowersLeft fs set next left = bit_or next (followers fs 0 left) ≡ followers fs 0 set

pub followers_turn : (fs : List ℕ) (set next left p rest : ℕ) → Lowest left p rest → FollowersLeft fs set next left → FollowersLeft fs set (bit_or next (get_or fs p 0)) rest
followers_turn fs set next left p rest low h = or_join next (get_or fs p 0) (followers fs 0 rest) ∙ ap (bit_or next) (sym (followers_lowest fs left p rest low)) ∙ h

-- from no leaf none follows
pub none_follow : (fs : List ℕ) (n : ℕ) → followers fs n 0 ≡ 0
none_follow fs n = same_leaves _ _ (λ y. same_test _ _ (λ h. never (n + (followers_sound fs n 0 y h).0) (followers_sound fs n 0 y h).1) (λ h. never y h))

pub followers_end : (fs : List ℕ) (set next left : ℕ) → left ≡ 0 → FollowersLeft fs set next left → next ≡ followers fs 0 set
followers_end fs set next left e h = sym (ap (λ z. bit_or next (followers fs 0 z)) e ∙ ap (bit_or next) (none_follow fs 0) ∙ or_zero_r next) ∙ h

-- where zeros lie behind the first n follow sets, they add nothing
pub followers_front : (fs : List ℕ) (n m set : ℕ) → drop n fs ≡ replicate m 0 → followers fs 0 set ≡ followers (take n fs) 0 set
followers_front fs n m set z = same_leaves _ _ (λ y. same_test _ _ (moved fs (take n fs) y (λ k. sym (at k (dec_lt k n)))) (moved (take n fs) fs y (λ k. at k (dec_lt k n))))
  where
    moved : (gs hs : List ℕ) (y : ℕ) → ((k : ℕ) → get_or gs k 0 ≡ get_or hs k 0) → member (followers gs 0 set) y ≡ true → member (followers hs 0 set) y ≡ true
    moved gs hs y e h = let c = followers_sound gs 0 set y h in followers_full hs 0 set c.0 (0 + c.0) y refl c.1 (subst (λ f. member f y ≡ true) (e c.0) c.2)

    zero_at : (k : ℕ) → Dec (k < m) → get_or (replicate {A = ℕ} m 0) k 0 ≡ 0
    zero_at k (yes l) = get_or-replicate m k 0 0 l
    zero_at k (no ge) = get_or_past (replicate m 0) k 0 (omega (arith, length-replicate {A = ℕ} m 0))

    at : (k : ℕ) → Dec (k < n) → get_or (take n fs) k 0 ≡ get_or fs k 0
    at k (yes l) = get_or-take n fs k 0 l
    at k (no ge) =
        let e : n + (k - n) ≡ k = omega arith in
        get_or_past (take n fs) k 0 (omega (arith, length-take n fs)) ∙ sym (zero_at (k - n) (dec_lt (k - n) m)) ∙ ap (λ l. get_or l (k - n) 0) (sym z) ∙ get_or-drop n fs (k - n) 0 ∙ ap (λ j. get_or fs j 0) e
