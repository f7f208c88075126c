-- Uniting a set into the follow sets of the leaves of a group.
use Rattle.std.proofs.Common.{◌≡◌, ℕ, zero, suc, ◌+◌, ◌<◌, ◌≤◌, true, false, cond, List, [], ◌∷◌, ◌++◌, length, get_or, set, sym, refl, ap, ◌∙◌, ap₂, ⊎_elim, arith}
use lib.Bits.{bit_or, or_zero_r}
use Rattle.std.proofs.lemmas.Bool.{cases_Bool}
use Rattle.positions.specs.Positions.{member, followed}
use Rattle.positions.specs.LeafSets.{Lowest}
use Rattle.positions.proofs.Masks.{lowest_gone, lowest_other}
use Rattle.positions.proofs.Meanings.{never}

pub followed_append : (group more n : ℕ) (xs ys : List ℕ) → followed group more n (xs ++ ys) ≡ followed group more n xs ++ followed group more (n + length xs) ys
followed_append group more n [] ys = let e : n ≡ n + 0 = omega arith in ap (λ k. followed group more k ys) e
followed_append group more n (x ∷ xs) ys =
    let e : suc n + length xs ≡ n + suc (length xs) = omega arith in
    ap {B = List ℕ} (λ z. bit_or x (cond (member group n) more 0) ∷ z) (followed_append group more (suc n) xs ys ∙ ap (λ k. followed group more (suc n) xs ++ followed group more k ys) e)

-- groups with the same leaves link the same
same_followed : (a b more n : ℕ) (fs : List ℕ) → ((y : ℕ) → n ≤ y → y < n + length fs → member a y ≡ member b y) → followed a more n fs ≡ followed b more n fs
same_followed a b more n [] h = refl
same_followed a b more n (f ∷ fs) h =
    ap₂ {C = List ℕ} (λ x xs. x ∷ xs) (ap (λ t. bit_or f (cond t more 0)) (h n (omega arith) (omega arith))) (same_followed a b more (suc n) fs (λ y l u. h y (omega arith) (omega arith)))

-- the group's lowest leaf may be linked first, and then the others
lowest_followed : (group p rest more n k : ℕ) (fs : List ℕ) → p ≡ n + k → k < length fs → Lowest group p rest
    → followed group more n fs ≡ followed rest more n (set fs k (bit_or (get_or fs k 0) more))
lowest_followed group p rest more n k [] e lt low = absurd (omega arith)
lowest_followed group p rest more n zero (f ∷ fs) e lt low =
    let here : n ≡ p = omega arith in
    let own : member group n ≡ true = ap (member group) here ∙ low.inside in
    let gone : member rest n ≡ false = ap (member rest) here ∙ lowest_gone group p rest low in
    ap₂ {C = List ℕ} (λ x xs. x ∷ xs)
    (ap (λ t. bit_or f (cond t more 0)) own ∙ sym (ap (λ t. bit_or (bit_or f more) (cond t more 0)) gone ∙ or_zero_r (bit_or f more)))
    (same_followed group rest more (suc n) fs (λ y l u. lowest_other group p rest y low (λ q. omega arith)))
lowest_followed group p rest more n (suc k) (f ∷ fs) e lt low =
    ap₂ {C = List ℕ} (λ x xs. x ∷ xs) (ap (λ t. bit_or f (cond t more 0)) (lowest_other group p rest n low (λ q. omega arith))) (lowest_followed group p rest more (suc n) k fs (omega arith) (omega arith) low)

-- linking the leaves that are left as well links the whole group
abbrev pub Linked : List ℕ → ℕ → ℕ → ℕ → List ℕ → Type 0
Linked old group more left new = followed left more 0 new ≡ followed group more 0 old

pub link_turn : (old new r : List ℕ) (group more left p rest : ℕ) → Lowest left p rest → p < length new → r ≡ set new p (bit_or (get_or new p 0) more) → Linked old group more left new → Linked old group more rest r
link_turn old new r group more left p rest low lt f h = ap (followed rest more 0) f ∙ sym (lowest_followed left p rest more 0 p new (omega arith) lt low) ∙ h

-- a leaf behind the list has no follow set there
pub link_past : (old new : List ℕ) (group more left p rest : ℕ) → Lowest left p rest → length new ≤ p → Linked old group more left new → Linked old group more rest new
link_past old new group more left p rest low le h = sym (same_followed left rest more 0 new (λ y l u. lowest_other left p rest y low (λ q. omega arith))) ∙ h

-- the group's leaves all lie from x on, below x + m
abbrev pub Lies : ℕ → ℕ → ℕ → Type 0
Lies group x m = (y : ℕ) → member group y ≡ true → (x ≤ y) × (y < x + m)

-- where no leaf of the group is, nothing changes
outside : (group more n : ℕ) (fs : List ℕ) → ((y : ℕ) → n ≤ y → y < n + length fs → member group y ≡ true → ⊥) → followed group more n fs ≡ fs
outside group more n [] h = refl
outside group more n (f ∷ fs) h =
    let no : member group n ≡ false = ⊎_elim (λ e. absurd (h n (omega arith) (omega arith) e)) (λ e. e) (cases_Bool (member group n)) in
    ap₂ {C = List ℕ} (λ x xs. x ∷ xs) (ap (λ b. bit_or f (cond b more 0)) no ∙ or_zero_r f) (outside group more (suc n) fs (λ y a b. h y (omega arith) (omega arith)))

pub link_end : (old new : List ℕ) (group more left : ℕ) → left ≡ 0 → Linked old group more left new → new ≡ followed group more 0 old
link_end old new group more left e h = sym (outside 0 more 0 new (λ y l u k. never y k)) ∙ ap (λ z. followed z more 0 new) (sym e) ∙ h

pub followed_within : (group more x m : ℕ) (a b c : List ℕ) → length a ≡ x → length b ≡ m → Lies group x m
    → followed group more 0 (a ++ (b ++ c)) ≡ a ++ (followed group more x b ++ c)
followed_within group more x m a b c la lb lies =
    let before : followed group more 0 a ≡ a = outside group more 0 a (λ y l u e. let k = lies y e in omega arith) in
    let behind : followed group more (x + length b) c ≡ c = outside group more (x + length b) c (λ y l u e. let k = lies y e in omega arith) in
    let at : 0 + length a ≡ x = omega arith in
    followed_append group more 0 a (b ++ c)
    ∙ ap₂ (λ l k. l ++ followed group more k (b ++ c)) before at
    ∙ ap (λ z. a ++ z) (followed_append group more x b c ∙ ap (λ z. followed group more x b ++ z) behind)
