-- The first line of an input, and the lines behind it.
use Rattle.std.proofs.Common.{◌≡◌, ℕ, zero, suc, ◌+◌, ◌-◌, ◌<◌, ◌≤◌, Bool, true, false, cond, eqb, ltb, List, [], ◌∷◌, Option, Some, None, length, get_or, take, drop, refl, ap, ◌∙◌, arith, length-drop, take_all, eq-eqb, ne_eqb, eqb-true, ltb-true, ltb-false}
use Rattle.std.specs.Prelude.{◌==◌, position}
use Rattle.std.specs.List.{position_or_len}
use Rattle.std.specs.Option.{unwrap_or}
use Rattle.std.proofs.lemmas.List.{drop-drop}
use Rattle.std.proofs.lemmas.Bool.{eqb-false}
use Rattle.std.proofs.lemmas.List.Sums.{fails_before_first, passes_at_first}
use Rattle.session.specs.Lines.{onto, lines}

-- no byte 10 stands before the place
abbrev Clear : List ℕ → ℕ → Type 0
Clear l n = (k : ℕ) → k < n → get_or l k 0 ≡ 10 → ⊥

clear_tail : (b : ℕ) (l : List ℕ) (n : ℕ) → Clear (b ∷ l) (suc n) → Clear l n
clear_tail b l n h k less e = h (suc k) (omega arith) e

-- a line that a byte 10 ends
pub ended : (l : List ℕ) (n : ℕ) → n < length l → Clear l n → get_or l n 0 ≡ 10 → lines l ≡ take n l ∷ lines (drop (suc n) l)
ended [] n less h e = absurd (omega arith)
ended (b ∷ l) zero less h e = rw (eq-eqb b 10 e)
ended (b ∷ l) (suc n) less h e =
    let ne : eqb b 10 ≡ false = ne_eqb b 10 (h 0 (omega arith)) in
    let r = ended l n (omega arith) (clear_tail b l n h) e in
    rw ne (ap (λ (x : List (List ℕ)). onto b x) r)

-- the last line, which no byte 10 ends
pub last : (l : List ℕ) → 0 < length l → Clear l (length l) → lines l ≡ l ∷ []
last [] less h = absurd (omega arith)
last (b ∷ []) less h = rw (ne_eqb b 10 (h 0 (omega arith)))
last (b ∷ c ∷ l) less h =
    let ne : eqb b 10 ≡ false = ne_eqb b 10 (h 0 (omega arith)) in
    let r = last (c ∷ l) (omega arith) (clear_tail b (c ∷ l) (length (c ∷ l)) h) in
    rw ne (ap (λ (x : List (List ℕ)). onto b x) r)

found_by : (b : Bool) (q n : ℕ) → Some n ≡ cond b (Some q) None → (b ≡ true) × (n ≡ q)
found_by true q n e = (refl, cc)
found_by false q n e = absurd cc

missed_by : (b : Bool) (q : ℕ) → None ≡ cond b (Some q) None → b ≡ false
missed_by true q e = absurd cc
missed_by false q e = refl

-- the same, by the place of the first byte 10
pub line_ended : (l : List ℕ) (n : ℕ) → Some n ≡ position (λ b. b == 10) l → (lines l ≡ take n l ∷ lines (take (length l - (n + 1)) (drop (n + 1) l))) × (length (take (length l - (n + 1)) (drop (n + 1) l)) < length l)
line_ended l n e =
    let q : ℕ = position_or_len (λ b. b == 10) l in
    let f = found_by (ltb q (length l)) q n e in
    let less : n < length l = omega (arith, ltb-true q (length l) f.0, f.1) in
    let h : Clear l n = λ k j x. eqb-false _ _ (fails_before_first (λ b. b == 10) l k 0 (omega (arith, f.1))) x in
    let t : get_or l n 0 ≡ 10 = ap (λ (k : ℕ). get_or l k 0) f.1 ∙ eqb-true _ _ (passes_at_first (λ b. b == 10) l 0 (omega (arith, f.1))) in
    let s : n + 1 ≡ suc n = omega arith in
    let r : take (length l - (n + 1)) (drop (n + 1) l) ≡ drop (n + 1) l = take_all (length l - (n + 1)) (drop (n + 1) l) (simp length-drop (omega arith)) in
    rw r (rw s (ended l n less h t), simp length-drop (omega arith))

pub line_last : (l : List ℕ) → 0 < length l → None ≡ position (λ b. b == 10) l → lines l ≡ l ∷ []
line_last l some e =
    let q : ℕ = position_or_len (λ b. b == 10) l in
    let f = ltb-false q (length l) (missed_by (ltb q (length l)) q e) in
    last l some (λ k j x. eqb-false _ _ (fails_before_first (λ b. b == 10) l k 0 (omega (arith, f))) x)

-- the same, where the text is parted at the place, or at its end
pub parted : (l front back : List ℕ) (n : ℕ) (o : Option ℕ) → o ≡ position (λ b. b == 10) l → n ≡ unwrap_or o (length l) → front ≡ take n l → back ≡ drop n l → 1 ≤ length back
    → (lines l ≡ front ∷ lines (take (length back - 1) (drop 1 back))) × (length (take (length back - 1) (drop 1 back)) < length l)
parted l front back n None e u f g some = absurd (omega (arith, u, ap length g, length-drop n l))
parted l front back n (Some k) e u f g some =
    let h = line_ended l k e in
    let many : length back - 1 ≡ length l - (k + 1) = omega (arith, u, ap length g, length-drop n l) in
    let behind : drop 1 back ≡ drop (k + 1) l = ap (drop 1) g ∙ drop-drop 1 n l ∙ ap (λ m. drop (m + 1) l) u in
    let rest : take (length back - 1) (drop 1 back) ≡ take (length l - (k + 1)) (drop (k + 1) l) = rw (many, behind) refl in
    let front_is : front ≡ take k l = f ∙ ap (λ m. take m l) u in
    rw (rest, front_is) h

pub unparted : (l front back : List ℕ) (n : ℕ) (o : Option ℕ) → o ≡ position (λ b. b == 10) l → n ≡ unwrap_or o (length l) → front ≡ take n l → back ≡ drop n l → 0 < length l → length back < 1
    → (lines l ≡ front ∷ lines back) × (length back < length l)
unparted l front [] n None e u f g some none =
    let all : front ≡ l = f ∙ take_all n l (omega (arith, u)) in
    rw all (line_last l some e, some)
unparted l front [] n (Some k) e u f g some none =
    let q : ℕ = position_or_len (λ b. b == 10) l in
    let h = found_by (ltb q (length l)) q k e in
    absurd (omega (arith, u, ap length g, length-drop n l, ltb-true q (length l) h.0, h.1))
unparted l front (b ∷ back) n o e u f g some none = absurd (omega arith)
