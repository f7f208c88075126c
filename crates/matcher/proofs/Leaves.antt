-- Whether a leaf or nothing has a stretch, and what yes and no say.
use Rattle.std.proofs.Common.{◌≡◌, ℕ, ◌-◌, ◌<◌, ◌≤◌, Bool, true, false, List, [], ◌∷◌, map, length, get_or, take, drop, sym, ap, ◌∙◌, arith}
use Rattle.std.proofs.lemmas.List.{drop-map, take-map}
use Rattle.rules.specs.Trees.{Tree, leaf}
use Rattle.rules.specs.Languages.{Sight, In, in_leaf, part}
use Rattle.rules.proofs.Parts.{InCases, in_cases}
use Rattle.matcher.specs.States.{Says}
use Rattle.matcher.proofs.Marks.{apart}

pub says_yes : (s : Tree) (x : List Sight) → In s x → Says s x true
says_yes s x h = record { has = λ _. h; lacks = λ e. apart e }

pub says_no : (s : Tree) (x : List Sight) → (In s x → ⊥) → Says s x false
says_no s x h = record { has = λ e. apart (sym e); lacks = λ _ a. h a }

-- a leaf has a stretch of one symbol if it holds it
pub leaf_one : {S : Type 0} (f : S → Sight) (xs : List S) (x : S) (lo hi : ℕ) → 1 ≤ length xs → length xs < 2 → x ≡ get_or xs 0 x → (r : Bool) → r ≡ f x lo hi → Says (leaf lo hi) (map f xs) r
leaf_one f [] x lo hi l u is r g = absurd (omega arith)
leaf_one f (y ∷ []) x lo hi l u is r g =
    let e : f y lo hi ≡ r = ap (λ z. f z lo hi) (sym is) ∙ sym g in
    record {
      has = λ h. in_leaf (e ∙ h);
      lacks = λ h a. let o : InCases (leaf lo hi) (f y ∷ []) = in_cases a in apart (sym o.2 ∙ (ap (λ (v : List Sight). (get_or v 0 (f y)) lo hi) (sym o.1) ∙ (e ∙ h)));
    }
leaf_one f (y ∷ z ∷ ys) x lo hi l u is r g = absurd (omega arith)

-- a stretch of a name, as the leaves see it
pub part_seen : {S : Type 0} (f : S → Sight) (xs : List S) (i j : ℕ) → part (map f xs) i j ≡ map f (take (j - i) (drop i xs))
part_seen f xs i j = ap (take (j - i)) (drop-map f i xs) ∙ take-map f (j - i) (drop i xs)
