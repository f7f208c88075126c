-- The names of a rule's tree, and of a tree, by its shape.
use Rattle.std.proofs.Common.{◌≡◌, ℕ, ◌≤◌, ◌<◌, Bool, true, false, ◌⊎◌, ◌↔◌, List, [], ◌∷◌, ◌++◌, length, map, take, drop, sym, get_or, refl, ap, ◌∙◌, subst, inl, inr, arith, length-append}
use Rattle.std.proofs.lemmas.Bool.Decides.{nat_tests}
use Rattle.std.proofs.lemmas.List.{take_at, drop_at, take-map, drop-map, take-append-drop, map-append, length-map}
use Rattle.rules.specs.Alphabets.{bytes_held}
use Rattle.rules.specs.Languages.{Sight, In, seen, in_empty, in_leaf, in_first, in_second, in_sequence, in_none, in_more}
use Rattle.rules.specs.Trees.{empty, leaf, choice, sequence, star, row}
use Rattle.rules.proofs.Parts.{InCases, in_cases}
use Rattle.rules.specs.Trees as rule
use Rattle.cases.specs.Names.{IsName, IsNameBefore, Has, HasBefore, LeafHas, ruled}
use Rattle.cases.specs.declared.tree.Tree.{Tree}
use Rattle.cases.specs.declared.tree.Tree.TheVariants.{Leaf}

abbrev see : ℕ → Sight
see b = λ lo hi. bytes_held lo hi b

none_seen : (word : List ℕ) → seen bytes_held word ≡ [] → length word ≡ 0
none_seen word e = sym (length-map word see) ∙ ap length e

pub empty_names : (word : List ℕ) → (length word ≡ 0) ↔ IsName empty word
empty_names [] = ((λ _. in_empty), λ _. refl)
empty_names (x ∷ xs) = ((λ h. absurd (omega (arith, h))), λ h. none_seen (x ∷ xs) (in_cases h))

head_holds : (lo hi b : ℕ) → InCases (leaf lo hi) (seen bytes_held (b ∷ [])) → bytes_held lo hi b ≡ true
head_holds lo hi b c =
    let first : List Sight → Bool = λ l. elim l [ [] ↦ false | x ∷ xs ↦ x lo hi ] in
    ap first c.1 ∙ c.2

pub leaf_names : (lo hi b : ℕ) → (bytes_held lo hi b ≡ true) ↔ IsName (leaf lo hi) (b ∷ [])
leaf_names lo hi b = ((λ h. in_leaf {s = see b} h), λ h. head_holds lo hi b (in_cases h))

held : (lo hi b : ℕ) → lo ≤ b → b ≤ hi → bytes_held lo hi b ≡ true
held lo hi b f g = grind (arith, nat_tests)

within : (lo hi b : ℕ) → bytes_held lo hi b ≡ true → (lo ≤ b) × (b ≤ hi)
within lo hi b h = (grind (arith, nat_tests), grind (arith, nat_tests))

leaf_row_has : (lo hi : ℕ) (word : List ℕ) → InCases (leaf lo hi) (seen bytes_held word) → LeafHas (row 1 lo hi) word
leaf_row_has lo hi [] c = absurd (omega (arith, ap length c.1))
leaf_row_has lo hi (b ∷ []) c = let w = within lo hi b (head_holds lo hi b c) in (b, refl, w.0, w.1)
leaf_row_has lo hi (a ∷ b ∷ word) c = absurd (omega (arith, ap length c.1))

-- a leaf's row has its tree's names
pub leaf_row_names : (lo hi : ℕ) (word : List ℕ) → LeafHas (row 1 lo hi) word ↔ IsName (leaf lo hi) word
leaf_row_names lo hi word = (
  (λ h. subst (λ (w : List ℕ). IsName (leaf lo hi) w) (sym h.1) ((leaf_names lo hi h.0).0 (held lo hi h.0 h.2 h.3))),
  λ h. leaf_row_has lo hi word (in_cases h),
)

-- names seen in two parts are seen at a place
cut_seen : (word : List ℕ) (u v : List Sight) → seen bytes_held word ≡ u ++ v
    → (length u ≤ length word) × (u ≡ seen bytes_held (take (length u) word)) × (v ≡ seen bytes_held (drop (length u) word))
cut_seen word u v e =
    let n = length u in
    let l = ap length e ∙ length-append u v in (
      omega (arith, l, length-map word see),
      sym (take_at u v n refl) ∙ ap (λ (z : List Sight). take n z) (sym e) ∙ take-map see n word,
      sym (drop_at u v n refl) ∙ ap (λ (z : List Sight). drop n z) (sym e) ∙ drop-map see n word,
    )

join_seen : (word : List ℕ) (k : ℕ) → seen bytes_held (take k word) ++ seen bytes_held (drop k word) ≡ seen bytes_held word
join_seen word k = sym (map-append see (take k word) (drop k word)) ∙ ap (λ (z : List ℕ). map see z) (take-append-drop k word)

split_before : (p q : rule.Tree) (word : List ℕ) (least : ℕ) (u v : List Sight) → least ≤ length u → seen bytes_held word ≡ u ++ v → In p u → In q v → IsNameBefore p q word least
split_before p q word least u v h e a b =
    let c = cut_seen word u v e in
    (length u, h, c.0, subst (λ (z : List Sight). In p z) c.1 a, subst (λ (z : List Sight). In q z) c.2 b)

pub choice_splits : (p q : rule.Tree) (word : List ℕ) → (IsName p word ⊎ IsName q word) ↔ IsName (choice p q) word
choice_splits p q word = ((λ (h : IsName p word ⊎ IsName q word). elim h [ inl a ↦ in_first a | inr a ↦ in_second a ]), λ h. in_cases h)

pub sequence_splits : (p q : rule.Tree) (word : List ℕ) → IsNameBefore p q word 0 ↔ IsName (sequence p q) word
sequence_splits p q word = (
  (λ h. subst (λ (z : List Sight). In (sequence p q) z) (join_seen word h.0) (in_sequence h.3 h.4)),
  λ h. let c : InCases (sequence p q) (seen bytes_held word) = in_cases h in split_before p q word 0 c.0 c.1 (omega arith) c.2 c.3 c.4,
)

star_before : (p : rule.Tree) (word : List ℕ) → InCases (star p) (seen bytes_held word) → (length word ≡ 0) ⊎ IsNameBefore p (star p) word 1
star_before p word (inl n) = inl (none_seen word n)
star_before p word (inr c) = inr (split_before p (star p) word 1 (c.0 ∷ c.1) c.2 (omega arith) c.3 c.4 c.5)

star_none : (p : rule.Tree) (word : List ℕ) → length word ≡ 0 → IsName (star p) word
star_none p [] n = in_none
star_none p (x ∷ xs) n = absurd (omega (arith, n))

star_more : (p : rule.Tree) (word : List ℕ) → IsNameBefore p (star p) word 1 → IsName (star p) word
star_more p word h = subst (λ (z : List Sight). In (star p) z) (join_seen word h.0) (in_more h.3 h.4)

pub star_splits : (p : rule.Tree) (word : List ℕ) → ((length word ≡ 0) ⊎ IsNameBefore p (star p) word 1) ↔ IsName (star p) word
star_splits p word = ((λ (h : (length word ≡ 0) ⊎ IsNameBefore p (star p) word 1). elim h [ inl n ↦ star_none p word n | inr m ↦ star_more p word m ]), λ h. star_before p word (in_cases h))

-- a tree has what its rule's tree has
pub choice_names : (p q s : Tree) (word : List ℕ) → ruled s ≡ choice (ruled p) (ruled q) → (Has p word ⊎ Has q word) ↔ Has s word
choice_names p q s word e = let P : rule.Tree → Type 0 = λ r. (Has p word ⊎ Has q word) ↔ IsName r word in subst P (sym e) (choice_splits (ruled p) (ruled q) word)

pub sequence_names : (p q s : Tree) (word : List ℕ) → ruled s ≡ sequence (ruled p) (ruled q) → HasBefore p q word 0 ↔ Has s word
sequence_names p q s word e = let P : rule.Tree → Type 0 = λ r. HasBefore p q word 0 ↔ IsName r word in subst P (sym e) (sequence_splits (ruled p) (ruled q) word)

pub star_names : (p s : Tree) (word : List ℕ) → ruled s ≡ star (ruled p) → ((length word ≡ 0) ⊎ HasBefore p s word 1) ↔ Has s word
star_names p s word e = let P : rule.Tree → Type 0 = λ r. ((length word ≡ 0) ⊎ IsNameBefore (ruled p) r word 1) ↔ IsName r word in subst P (sym e) (star_splits (ruled p) word)

-- a list of one item
one_byte : (word : List ℕ) → 1 ≤ length word → length word < 2 → word ≡ get_or word 0 0 ∷ []
one_byte [] a b = absurd (omega arith)
one_byte (x ∷ []) a b = refl
one_byte (x ∷ (y ∷ ys)) a b = absurd (omega arith)

pub leaf_one : (lo hi : ℕ) (s : Tree) (word : List ℕ) → s ≡ Leaf lo hi → 1 ≤ length word → length word < 2 → (bytes_held lo hi (get_or word 0 0) ≡ true) ↔ Has s word
leaf_one lo hi s word e a b = let P : Tree → List ℕ → Type 0 = λ t w. (bytes_held lo hi (get_or word 0 0) ≡ true) ↔ Has t w in
    subst (λ t. P t word) (sym e) (subst (λ (w : List ℕ). P (Leaf lo hi) w) (sym (one_byte word a b)) (leaf_names lo hi (get_or word 0 0)))

-- a test of what is the same as what the tree has
pub told : {b : Bool} {P Q : Type 0} → (b ≡ true) ↔ P → P ↔ Q → (b ≡ true) ↔ Q
told f g = ((λ h. g.0 (f.0 h)), λ h. f.1 (g.1 h))
