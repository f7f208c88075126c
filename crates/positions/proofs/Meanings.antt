-- What the position sets hold, by the words that are spelled.
use Rattle.std.proofs.Common.{◌≡◌, ℕ, zero, suc, ◌+◌, ◌-◌, ◌^◌, ◌<◌, ◌≤◌, Bool, true, false, cond, ◌&&◌, ◌⊎◌, ◌↔◌, List, [], ◌∷◌, ◌++◌, length, get_or, sym, refl, ap, ◌∙◌, subst, inl, inr, ⊎_elim, append_assoc, append-nil, zero-add, arith, length-append}
use lib.Bits.{bit_or}
use Rattle.std.proofs.lemmas.Bool.{true≢false, and_parts, and_from, or_cases, or_left, or_right, eqb-true, eq-eqb, cases_lt}
use Rattle.std.proofs.lemmas.List.{get_or_append_left, get_or-append_right, get_or_past}
use Rattle.rules.specs.Trees.{Tree, empty, leaf, choice, sequence, star, leaves}
use Rattle.positions.specs.Positions.{nullable, member, first_set, last_set, followed, follow_sets, Spells, spells_empty, spells_leaf, spells_first, spells_second, spells_sequence, spells_none, spells_more}
use Rattle.positions.specs.Theorems.{SetsMean}
use Rattle.positions.proofs.Masks.{member_or, member_none, member_one, below_members}
use Rattle.positions.proofs.Local.{Begins, Ends, Follows, Rest, Whole, begins_within, ends_within, follows_within, spells_whole, whole_spells}

pub never : {X : Type 0} (x : ℕ) → member 0 x ≡ true → X
never x h = absurd (true≢false (sym h ∙ member_none x))

member_cond : (b : Bool) (a x : ℕ) → member (cond b a 0) x ≡ (b && member a x)
member_cond true a x = refl
member_cond false a x = member_none x

pub or_either : (a b x : ℕ) → member (bit_or a b) x ≡ true → (member a x ≡ true) ⊎ (member b x ≡ true)
or_either a b x h = or_cases (member a x) (member b x) (sym (member_or a b x) ∙ h)

pub in_left : (a b x : ℕ) → member a x ≡ true → member (bit_or a b) x ≡ true
in_left a b x h = member_or a b x ∙ or_left (member a x) (member b x) h

pub in_right : (a b x : ℕ) → member b x ≡ true → member (bit_or a b) x ≡ true
in_right a b x h = member_or a b x ∙ or_right (member a x) (member b x) h

pub if_both : (b : Bool) (a x : ℕ) → member (cond b a 0) x ≡ true → (b ≡ true) × (member a x ≡ true)
if_both b a x h = and_parts b (member a x) (sym (member_cond b a x) ∙ h)

pub both_if : (b : Bool) (a x : ℕ) → b ≡ true → member a x ≡ true → member (cond b a 0) x ≡ true
both_if b a x h k = member_cond b a x ∙ and_from b (member a x) h k

-- the sets and the conditions on leaves
pub first_begins : (t : Tree) (n x : ℕ) → member (first_set t n) x ≡ true → Begins t n x
first_begins empty n x h = never x h
first_begins (leaf lo hi) n x h = eqb-true x n (sym (member_one n x) ∙ h)
first_begins (choice p q) n x h = ⊎_elim (λ k. inl (first_begins p n x k)) (λ k. inr (first_begins q (n + leaves p) x k)) (or_either (first_set p n) (first_set q (n + leaves p)) x h)
first_begins (sequence p q) n x h =
    ⊎_elim
    (λ k. inl (first_begins p n x k))
    (λ k. let l = if_both (nullable p) (first_set q (n + leaves p)) x k in inr (l.0, first_begins q (n + leaves p) x l.1))
    (or_either (first_set p n) (cond (nullable p) (first_set q (n + leaves p)) 0) x h)
first_begins (star p) n x h = first_begins p n x h

pub begins_first : (t : Tree) (n x : ℕ) → Begins t n x → member (first_set t n) x ≡ true
begins_first empty n x h = elim h [ ]
begins_first (leaf lo hi) n x h = member_one n x ∙ eq-eqb x n h
begins_first (choice p q) n x (inl h) = in_left (first_set p n) (first_set q (n + leaves p)) x (begins_first p n x h)
begins_first (choice p q) n x (inr h) = in_right (first_set p n) (first_set q (n + leaves p)) x (begins_first q (n + leaves p) x h)
begins_first (sequence p q) n x (inl h) = in_left (first_set p n) (cond (nullable p) (first_set q (n + leaves p)) 0) x (begins_first p n x h)
begins_first (sequence p q) n x (inr h) = in_right (first_set p n) (cond (nullable p) (first_set q (n + leaves p)) 0) x (both_if (nullable p) (first_set q (n + leaves p)) x h.0 (begins_first q (n + leaves p) x h.1))
begins_first (star p) n x h = begins_first p n x h

pub last_ends : (t : Tree) (n x : ℕ) → member (last_set t n) x ≡ true → Ends t n x
last_ends empty n x h = never x h
last_ends (leaf lo hi) n x h = eqb-true x n (sym (member_one n x) ∙ h)
last_ends (choice p q) n x h = ⊎_elim (λ k. inl (last_ends p n x k)) (λ k. inr (last_ends q (n + leaves p) x k)) (or_either (last_set p n) (last_set q (n + leaves p)) x h)
last_ends (sequence p q) n x h =
    ⊎_elim
    (λ k. let l = if_both (nullable q) (last_set p n) x k in inl (l.0, last_ends p n x l.1))
    (λ k. inr (last_ends q (n + leaves p) x k))
    (or_either (cond (nullable q) (last_set p n) 0) (last_set q (n + leaves p)) x h)
last_ends (star p) n x h = last_ends p n x h

pub ends_last : (t : Tree) (n x : ℕ) → Ends t n x → member (last_set t n) x ≡ true
ends_last empty n x h = elim h [ ]
ends_last (leaf lo hi) n x h = member_one n x ∙ eq-eqb x n h
ends_last (choice p q) n x (inl h) = in_left (last_set p n) (last_set q (n + leaves p)) x (ends_last p n x h)
ends_last (choice p q) n x (inr h) = in_right (last_set p n) (last_set q (n + leaves p)) x (ends_last q (n + leaves p) x h)
ends_last (sequence p q) n x (inl h) = in_left (cond (nullable q) (last_set p n) 0) (last_set q (n + leaves p)) x (both_if (nullable q) (last_set p n) x h.0 (ends_last p n x h.1))
ends_last (sequence p q) n x (inr h) = in_right (cond (nullable q) (last_set p n) 0) (last_set q (n + leaves p)) x (ends_last q (n + leaves p) x h)
ends_last (star p) n x h = ends_last p n x h

-- the follow sets
pub length_followed : (set more n : ℕ) (fs : List ℕ) → length (followed set more n fs) ≡ length fs
length_followed set more n [] = refl
length_followed set more n (f ∷ fs) = ap suc (length_followed set more (suc n) fs)

pub length_follow_sets : (t : Tree) (n : ℕ) → length (follow_sets t n) ≡ leaves t
length_follow_sets empty n = refl
length_follow_sets (leaf lo hi) n = refl
length_follow_sets (choice p q) n = let a = length_follow_sets p n in let b = length_follow_sets q (n + leaves p) in length-append (follow_sets p n) (follow_sets q (n + leaves p)) ∙ (omega arith)
length_follow_sets (sequence p q) n =
    let a = length_follow_sets p n in
    let b = length_follow_sets q (n + leaves p) in
    let l = last_set p n in
    let m = first_set q (n + leaves p) in
    let c = length_followed l m n (follow_sets p n) in
    length-append (followed l m n (follow_sets p n)) (follow_sets q (n + leaves p)) ∙ (omega arith)
length_follow_sets (star p) n = length_followed (last_set p n) (first_set p n) n (follow_sets p n) ∙ length_follow_sets p n

getD_followed : (set more n : ℕ) (fs : List ℕ) (k x : ℕ) → x ≡ n + k → k < length fs → get_or (followed set more n fs) k 0 ≡ bit_or (get_or fs k 0) (cond (member set x) more 0)
getD_followed set more n [] k x e lt = absurd (omega arith)
getD_followed set more n (f ∷ fs) zero x e lt = let d : n ≡ x = omega arith in ap (λ m. bit_or f (cond (member set m) more 0)) d
getD_followed set more n (f ∷ fs) (suc k) x e lt = getD_followed set more (suc n) fs k x (omega arith) (omega arith)

-- the set at k: what follows leaf n + k
abbrev pub after : Tree → ℕ → ℕ → ℕ
after t n k = get_or (follow_sets t n) k 0

followed_either : (set more n : ℕ) (fs : List ℕ) (k x y : ℕ) → x ≡ n + k → k < length fs → member (get_or (followed set more n fs) k 0) y ≡ true → (member (get_or fs k 0) y ≡ true) ⊎ ((member set x ≡ true) × (member more y ≡ true))
followed_either set more n fs k x y e lt h =
    ⊎_elim inl (λ l. inr (if_both (member set x) more y l))
    (or_either (get_or fs k 0) (cond (member set x) more 0) y (ap (λ s. member s y) (sym (getD_followed set more n fs k x e lt)) ∙ h))

followed_old : (set more n : ℕ) (fs : List ℕ) (k x y : ℕ) → x ≡ n + k → k < length fs → member (get_or fs k 0) y ≡ true → member (get_or (followed set more n fs) k 0) y ≡ true
followed_old set more n fs k x y e lt h = ap (λ s. member s y) (getD_followed set more n fs k x e lt) ∙ in_left (get_or fs k 0) (cond (member set x) more 0) y h

followed_new : (set more n : ℕ) (fs : List ℕ) (k x y : ℕ) → x ≡ n + k → k < length fs → member set x ≡ true → member more y ≡ true → member (get_or (followed set more n fs) k 0) y ≡ true
followed_new set more n fs k x y e lt h l = ap (λ s. member s y) (getD_followed set more n fs k x e lt) ∙ in_right (get_or fs k 0) (cond (member set x) more 0) y (both_if (member set x) more y h l)

only_none : (k : ℕ) → ◌≡◌ {A = ℕ} (get_or (0 ∷ []) k 0) 0
only_none zero = refl
only_none (suc k) = refl

-- a list of sets that is two lists, asked at k
joined_left : (fs gs : List ℕ) (m k y : ℕ) → length fs ≡ m → k < m → member (get_or (fs ++ gs) k 0) y ≡ member (get_or fs k 0) y
joined_left fs gs m k y e lt = ap (λ s. member s y) (get_or_append_left fs gs 0 k (omega arith))

joined_right : (fs gs : List ℕ) (m k y : ℕ) → length fs ≡ m → m ≤ k → member (get_or (fs ++ gs) k 0) y ≡ member (get_or gs (k - m) 0) y
joined_right fs gs m k y e le = ap (λ s. member s y) (get_or-append_right fs gs m k 0 e le)

pub after_follows : (t : Tree) (n k x y : ℕ) → x ≡ n + k → member (after t n k) y ≡ true → Follows t n x y
after_follows empty n k x y e h = never y h
after_follows (leaf lo hi) n k x y e h = never y (ap (λ s. member s y) (sym (only_none k)) ∙ h)
after_follows (choice p q) n k x y e h =
    let a = length_follow_sets p n in
    ⊎_elim
    (λ lt. inl (after_follows p n k x y e (sym (joined_left (follow_sets p n) (follow_sets q (n + leaves p)) (leaves p) k y a lt) ∙ h)))
    (λ le. inr (after_follows q (n + leaves p) (k - leaves p) x y (omega arith) (sym (joined_right (follow_sets p n) (follow_sets q (n + leaves p)) (leaves p) k y a le) ∙ h)))
    (cases_lt k (leaves p))
after_follows (sequence p q) n k x y e h =
    let a = length_follow_sets p n in
    let l = last_set p n in
    let m = first_set q (n + leaves p) in
    let c : length (followed l m n (follow_sets p n)) ≡ leaves p = length_followed l m n (follow_sets p n) ∙ a in
    ⊎_elim
    (λ lt.
    ⊎_elim
    (λ i. inl (inl (after_follows p n k x y e i)))
    (λ i. inl (inr (last_ends p n x i.0, first_begins q (n + leaves p) y i.1)))
    (followed_either l m n (follow_sets p n) k x y e (omega arith) (sym (joined_left (followed l m n (follow_sets p n)) (follow_sets q (n + leaves p)) (leaves p) k y c lt) ∙ h)))
    (λ le. inr (after_follows q (n + leaves p) (k - leaves p) x y (omega arith) (sym (joined_right (followed l m n (follow_sets p n)) (follow_sets q (n + leaves p)) (leaves p) k y c le) ∙ h)))
    (cases_lt k (leaves p))
after_follows (star p) n k x y e h =
    let a = length_follow_sets p n in
    let c = length_followed (last_set p n) (first_set p n) n (follow_sets p n) in
    ⊎_elim
    (λ lt.
    ⊎_elim
    (λ i. inl (after_follows p n k x y e i))
    (λ i. inr (last_ends p n x i.0, first_begins p n y i.1))
    (followed_either (last_set p n) (first_set p n) n (follow_sets p n) k x y e (omega arith) h))
    (λ le. never y (ap (λ s. member s y) (sym (get_or_past (followed (last_set p n) (first_set p n) n (follow_sets p n)) k 0 (omega arith))) ∙ h))
    (cases_lt k (leaves p))

pub follows_after : (t : Tree) (n k x y : ℕ) → x ≡ n + k → Follows t n x y → member (after t n k) y ≡ true
follows_after empty n k x y e h = elim h [ ]
follows_after (leaf lo hi) n k x y e h = elim h [ ]
follows_after (choice p q) n k x y e (inl h) =
    let w = follows_within p n x y h in
    joined_left (follow_sets p n) (follow_sets q (n + leaves p)) (leaves p) k y (length_follow_sets p n) (omega arith) ∙ follows_after p n k x y e h
follows_after (choice p q) n k x y e (inr h) =
    let w = follows_within q (n + leaves p) x y h in
    joined_right (follow_sets p n) (follow_sets q (n + leaves p)) (leaves p) k y (length_follow_sets p n) (omega arith) ∙ follows_after q (n + leaves p) (k - leaves p) x y (omega arith) h
follows_after (sequence p q) n k x y e (inl (inl h)) =
    let w = follows_within p n x y h in
    let a = length_follow_sets p n in
    let l = last_set p n in
    let m = first_set q (n + leaves p) in
    joined_left (followed l m n (follow_sets p n)) (follow_sets q (n + leaves p)) (leaves p) k y (length_followed l m n (follow_sets p n) ∙ a) (omega arith)
    ∙ followed_old l m n (follow_sets p n) k x y e (omega arith) (follows_after p n k x y e h)
follows_after (sequence p q) n k x y e (inl (inr h)) =
    let w = ends_within p n x h.0 in
    let a = length_follow_sets p n in
    let l = last_set p n in
    let m = first_set q (n + leaves p) in
    joined_left (followed l m n (follow_sets p n)) (follow_sets q (n + leaves p)) (leaves p) k y (length_followed l m n (follow_sets p n) ∙ a) (omega arith)
    ∙ followed_new l m n (follow_sets p n) k x y e (omega arith) (ends_last p n x h.0) (begins_first q (n + leaves p) y h.1)
follows_after (sequence p q) n k x y e (inr h) =
    let w = follows_within q (n + leaves p) x y h in
    let l = last_set p n in
    let m = first_set q (n + leaves p) in
    joined_right (followed l m n (follow_sets p n)) (follow_sets q (n + leaves p)) (leaves p) k y (length_followed l m n (follow_sets p n) ∙ length_follow_sets p n) (omega arith)
    ∙ follows_after q (n + leaves p) (k - leaves p) x y (omega arith) h
follows_after (star p) n k x y e (inl h) =
    let w = follows_within p n x y h in
    let a = length_follow_sets p n in
    followed_old (last_set p n) (first_set p n) n (follow_sets p n) k x y e (omega arith) (follows_after p n k x y e h)
follows_after (star p) n k x y e (inr h) =
    let w = ends_within p n x h.0 in
    let a = length_follow_sets p n in
    followed_new (last_set p n) (first_set p n) n (follow_sets p n) k x y e (omega arith) (ends_last p n x h.0) (begins_first p n y h.1)

-- every tree spells some word
pub some_word : (t : Tree) (n : ℕ) → (w : List ℕ) × Spells t n w
some_word empty n = ([], spells_empty)
some_word (leaf lo hi) n = (n ∷ [], spells_leaf)
some_word (choice p q) n = let a = some_word p n in (a.0, spells_first a.1)
some_word (sequence p q) n = let a = some_word p n in let b = some_word q (n + leaves p) in (a.0 ++ b.0, spells_sequence a.1 b.1)
some_word (star p) n = ([], spells_none)

again : (p : Tree) (n : ℕ) (w : List ℕ) → Spells p n w → Spells (star p) n w
again p n w h = subst (Spells (star p) n) (append-nil w) (spells_more h spells_none)

begins_spells : (t : Tree) (n x : ℕ) → Begins t n x → (w : List ℕ) × Spells t n (x ∷ w)
begins_spells empty n x h = elim h [ ]
begins_spells (leaf lo hi) n x h = ([], whole_spells (leaf lo hi) n (x ∷ []) (h, h))
begins_spells (choice p q) n x (inl h) = let a = begins_spells p n x h in (a.0, spells_first a.1)
begins_spells (choice p q) n x (inr h) = let a = begins_spells q (n + leaves p) x h in (a.0, spells_second a.1)
begins_spells (sequence p q) n x (inl h) = let a = begins_spells p n x h in let b = some_word q (n + leaves p) in (a.0 ++ b.0, spells_sequence a.1 b.1)
begins_spells (sequence p q) n x (inr h) = let a = begins_spells q (n + leaves p) x h.1 in (a.0, spells_sequence (whole_spells p n [] h.0) a.1)
begins_spells (star p) n x h = let a = begins_spells p n x h in (a.0, again p n (x ∷ a.0) a.1)

ends_spells : (t : Tree) (n x : ℕ) → Ends t n x → (w : List ℕ) × Spells t n (w ++ x ∷ [])
ends_spells empty n x h = elim h [ ]
ends_spells (leaf lo hi) n x h = ([], whole_spells (leaf lo hi) n (x ∷ []) (h, h))
ends_spells (choice p q) n x (inl h) = let a = ends_spells p n x h in (a.0, spells_first a.1)
ends_spells (choice p q) n x (inr h) = let a = ends_spells q (n + leaves p) x h in (a.0, spells_second a.1)
ends_spells (sequence p q) n x (inl h) = let a = ends_spells p n x h.1 in (a.0, subst (Spells (sequence p q) n) (append-nil (a.0 ++ x ∷ [])) (spells_sequence a.1 (whole_spells q (n + leaves p) [] h.0)))
ends_spells (sequence p q) n x (inr h) = let a = some_word p n in let b = ends_spells q (n + leaves p) x h in (a.0 ++ b.0, subst (Spells (sequence p q) n) (sym (append_assoc a.0 b.0 (x ∷ []))) (spells_sequence a.1 b.1))
ends_spells (star p) n x h = let a = ends_spells p n x h in (a.0, again p n (a.0 ++ x ∷ []) a.1)

-- a word that holds x and directly after it y
abbrev pub Beside : Tree → ℕ → ℕ → ℕ → Type 0
Beside t n x y = (u v : List ℕ) × Spells t n (u ++ x ∷ y ∷ v)

-- u ends in x and v begins with y
meet : (u v : List ℕ) (x y : ℕ) → (u ++ x ∷ []) ++ y ∷ v ≡ u ++ x ∷ y ∷ v
meet u v x y = append_assoc u (x ∷ []) (y ∷ v)

follows_spells : (t : Tree) (n x y : ℕ) → Follows t n x y → Beside t n x y
follows_spells empty n x y h = elim h [ ]
follows_spells (leaf lo hi) n x y h = elim h [ ]
follows_spells (choice p q) n x y (inl h) = let a = follows_spells p n x y h in (a.0, a.1, spells_first a.2)
follows_spells (choice p q) n x y (inr h) = let a = follows_spells q (n + leaves p) x y h in (a.0, a.1, spells_second a.2)
follows_spells (sequence p q) n x y (inl (inl h)) =
    let a = follows_spells p n x y h in
    let b = some_word q (n + leaves p) in
    (a.0, a.1 ++ b.0, subst (Spells (sequence p q) n) (append_assoc a.0 (x ∷ y ∷ a.1) b.0) (spells_sequence a.2 b.1))
follows_spells (sequence p q) n x y (inl (inr h)) =
    let a = ends_spells p n x h.0 in
    let b = begins_spells q (n + leaves p) y h.1 in
    (a.0, b.0, subst (Spells (sequence p q) n) (meet a.0 b.0 x y) (spells_sequence a.1 b.1))
follows_spells (sequence p q) n x y (inr h) =
    let a = some_word p n in
    let b = follows_spells q (n + leaves p) x y h in
    (a.0 ++ b.0, b.1, subst (Spells (sequence p q) n) (sym (append_assoc a.0 b.0 (x ∷ y ∷ b.1))) (spells_sequence a.1 b.2))
follows_spells (star p) n x y (inl h) = let a = follows_spells p n x y h in (a.0, a.1, again p n (a.0 ++ x ∷ y ∷ a.1) a.2)
follows_spells (star p) n x y (inr h) =
    let a = ends_spells p n x h.0 in
    let b = begins_spells p n y h.1 in
    (a.0, b.0, subst (Spells (star p) n) (meet a.0 b.0 x y) (spells_more a.1 (again p n (y ∷ b.0) b.1)))

-- and back
rest_ends : (t : Tree) (n x z : ℕ) (w : List ℕ) → Rest t n z (w ++ x ∷ []) → Ends t n x
rest_ends t n x z [] h = h.1
rest_ends t n x z (y ∷ w) h = rest_ends t n x y w h.1

whole_ends : (t : Tree) (n x : ℕ) (w : List ℕ) → Whole t n (w ++ x ∷ []) → Ends t n x
whole_ends t n x [] h = h.1
whole_ends t n x (y ∷ w) h = rest_ends t n x y w h.1

rest_follows : (t : Tree) (n x y z : ℕ) (u v : List ℕ) → Rest t n z (u ++ x ∷ y ∷ v) → Follows t n x y
rest_follows t n x y z [] v h = h.1.0
rest_follows t n x y z (c ∷ u) v h = rest_follows t n x y c u v h.1

whole_follows : (t : Tree) (n x y : ℕ) (u v : List ℕ) → Whole t n (u ++ x ∷ y ∷ v) → Follows t n x y
whole_follows t n x y [] v h = h.1.0
whole_follows t n x y (c ∷ u) v h = rest_follows t n x y c u v h.1

-- the meanings
pub nullable_means : (t : Tree) (n : ℕ) → (nullable t ≡ true) ↔ Spells t n []
nullable_means t n = (λ h. whole_spells t n [] h, λ h. spells_whole t n [] h)

pub first_means : (t : Tree) (n x : ℕ) → (member (first_set t n) x ≡ true) ↔ ((w : List ℕ) × Spells t n (x ∷ w))
first_means t n x = (λ h. begins_spells t n x (first_begins t n x h), λ h. begins_first t n x (spells_whole t n (x ∷ h.0) h.1).0)

pub last_means : (t : Tree) (n x : ℕ) → (member (last_set t n) x ≡ true) ↔ ((w : List ℕ) × Spells t n (w ++ x ∷ []))
last_means t n x = (λ h. ends_spells t n x (last_ends t n x h), λ h. ends_last t n x (whole_ends t n x h.0 (spells_whole t n (h.0 ++ x ∷ []) h.1)))

pub follow_means : (t : Tree) (n k y : ℕ) → (member (get_or (follow_sets t n) k 0) y ≡ true) ↔ ((u v : List ℕ) × Spells t n (u ++ (n + k) ∷ y ∷ v))
follow_means t n k y = (
  λ h. follows_spells t n (n + k) y (after_follows t n k (n + k) y refl h),
  λ h. follows_after t n k (n + k) y refl (whole_follows t n (n + k) y h.0 h.1 (spells_whole t n (h.0 ++ (n + k) ∷ y ∷ h.1) h.2)),
)

-- the sets hold no leaf but the tree's
pub first_below : (t : Tree) (n m : ℕ) → n + leaves t ≤ m → first_set t n < 2 ^ m
first_below t n m le = below_members _ _ (λ x h. let w = begins_within t n x (first_begins t n x h) in omega arith)

pub last_below : (t : Tree) (n m : ℕ) → n + leaves t ≤ m → last_set t n < 2 ^ m
last_below t n m le = below_members _ _ (λ x h. let w = ends_within t n x (last_ends t n x h) in omega arith)

pub follow_below : (t : Tree) (n k m : ℕ) → n + leaves t ≤ m → after t n k < 2 ^ m
follow_below t n k m le = below_members _ _ (λ y h. let w = (follows_within t n (n + k) y (after_follows t n k (n + k) y refl h)).1 in omega arith)

pub sets_mean : (t : Tree) → SetsMean t
sets_mean t = record {
  none = nullable_means t 0;
  first = first_means t 0;
  last = last_means t 0;
  follow = λ x y. rw (zero-add x) at (follow_means t 0 x y);
  one_each = length_follow_sets t 0;
  first_fits = first_below t 0 (leaves t) (omega arith);
  last_fits = last_below t 0 (leaves t) (omega arith);
  follow_fits = λ x. follow_below t 0 x (leaves t) (omega arith);
}
