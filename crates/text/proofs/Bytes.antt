-- The front of a text, as the lexer's patterns take it apart.
use Rattle.std.proofs.Common.{◌≡◌, ℕ, suc, ◌+◌, ◌-◌, ◌<◌, ◌≤◌, List, [], ◌∷◌, ◌++◌, length, get_or, take, drop, sym, refl, ap, ◌∙◌, subst, le_refl, add-one, arith, length-append, length-drop, take-append-drop, drop_of_length-le, take_all, drop-cons, drop-drop}
use lib.Seq.{drop-append_seam}
use Rattle.text.specs.Signs.{Mark, one, Lex, lex_escape, lex_class, Signed, Stops, stops_empty, stops_close, stops_bar}
use Rattle.text.proofs.Lexing.{lex_front, lex_to}
use Rattle.text.specs.declared.sign.Sign.{Sign}

pub rest_is : (k : ℕ) (i : List ℕ) → take (length i - k) (drop k i) ≡ drop k i
rest_is k i = take_all _ _ (simp length-drop (le_refl (length i - k)))

pub first_is : (i : List ℕ) (b : ℕ) → 0 < length i → get_or i 0 0 ≡ b → i ≡ b ∷ take (length i - 1) (drop 1 i)
first_is [] b h e = absurd (omega arith)
first_is (a ∷ x) b h e = rw (rest_is 1 (a ∷ x)) (ap (λ (w : ℕ). w ∷ x) e)

pub front_is : (k : ℕ) (i : List ℕ) → i ≡ take k i ++ take (length i - k) (drop k i)
front_is k i = rw (rest_is k i) (sym (take-append-drop k i))

pub two_is : (i : List ℕ) → 1 < length i → i ≡ take 2 i ++ take (length (take (length i - 1) (drop 1 i)) - 1) (drop 1 (take (length i - 1) (drop 1 i)))
two_is [] h = absurd (omega arith)
two_is (a ∷ []) h = absurd (omega arith)
two_is (a ∷ b ∷ x) h = rw (rest_is 1 (a ∷ b ∷ x), rest_is 1 (b ∷ x)) refl

pub there : (i : List ℕ) (at b : ℕ) → at < length i → get_or i at 0 ≡ b → drop at i ≡ b ∷ drop (at + 1) i
there i at b h e = drop-cons i at 0 h ∙ ap (λ (w : ℕ). w ∷ drop (suc at) i) e ∙ ap (λ (n : ℕ). b ∷ drop n i) (sym (add-one at))

pub there_back : (i z : List ℕ) (at b : ℕ) → at < length i → drop at i ≡ b ∷ z → get_or i at 0 ≡ b
there_back i z at b h e = let f = drop-cons i at 0 h in cc

pub past : (i : List ℕ) (at : ℕ) → length i ≤ at → drop at i ≡ []
past i at h = drop_of_length-le i h

pub stops_from : {x : List ℕ} → Stops x → (x ≡ [] → ⊥) → ((z : List ℕ) → x ≡ 41 ∷ z → ⊥) → ((z : List ℕ) → x ≡ 124 ∷ z → ⊥) → ⊥
stops_from stops_empty h k l = h refl
stops_from (stops_close {x}) h k l = k x refl
stops_from (stops_bar {x}) h k l = l x refl

pub stops_at : {x y : List ℕ} → x ≡ y → Stops y → Stops x
stops_at e s = subst Stops (sym e) s

pub not_past : (i : List ℕ) (at : ℕ) → at < length i → drop at i ≡ [] → ⊥
not_past i at h e = omega (arith, ap length (sym (drop-cons i at 0 h) ∙ e))

-- what stands behind a front
pub rest_at : (text b x : List ℕ) (at : ℕ) → at ≤ length text → drop at text ≡ b ++ x → drop (length text - length x) text ≡ x
rest_at text b x at h e =
    let n : length text - at ≡ length b + length x = sym (length-drop at text) ∙ ap length e ∙ length-append b x in
    let m : length text - length x ≡ at + length b = omega arith in
    ap (λ (k : ℕ). drop k text) m ∙ sym (drop-drop (length b) at text) ∙ ap (λ (w : List ℕ). drop (length b) w) e ∙ drop-append_seam b x

-- an escape of two bytes, and a class of five
pub two_lex : (l i x : List ℕ) → length l ≡ 2 → i ≡ l ++ x → get_or l 0 0 ≡ 92 → Lex i (one (get_or l 1 0) (get_or l 1 0)) x
two_lex [] i x n e f = absurd (omega arith)
two_lex (a ∷ []) i x n e f = absurd (omega arith)
two_lex (a ∷ b ∷ []) i x n e f = lex_to (e ∙ ap (λ (w : ℕ). w ∷ b ∷ x) f) lex_escape
two_lex (a ∷ b ∷ c ∷ l) i x n e f = absurd (omega arith)

pub five_lex : (l i x : List ℕ) → length l ≡ 5 → i ≡ l ++ x → get_or l 0 0 ≡ 91 → get_or l 2 0 ≡ 45 → get_or l 4 0 ≡ 93 → get_or l 1 0 ≤ get_or l 3 0 → Lex i (one (get_or l 1 0) (get_or l 3 0)) x
five_lex [] i x n e f g h o = absurd (omega arith)
five_lex (a ∷ []) i x n e f g h o = absurd (omega arith)
five_lex (a ∷ b ∷ []) i x n e f g h o = absurd (omega arith)
five_lex (a ∷ b ∷ c ∷ []) i x n e f g h o = absurd (omega arith)
five_lex (a ∷ b ∷ c ∷ d ∷ []) i x n e f g h o = absurd (omega arith)
five_lex (a ∷ b ∷ c ∷ d ∷ z ∷ []) i x n e f g h o =
    lex_to (e ∙ ap (λ (w : ℕ). w ∷ b ∷ c ∷ d ∷ z ∷ x) f ∙ ap (λ (w : ℕ). 91 ∷ b ∷ w ∷ d ∷ z ∷ x) g ∙ ap (λ (w : ℕ). 91 ∷ b ∷ 45 ∷ d ∷ w ∷ x) h) (lex_class o)
five_lex (a ∷ b ∷ c ∷ d ∷ z ∷ y ∷ l) i x n e f g h o = absurd (omega arith)

-- a sign of one byte
pub byte_signed : (b : ℕ) (i : List ℕ) {m : Mark} → 0 < length i → get_or i 0 0 ≡ b → Lex (b ∷ take (length i - 1) (drop 1 i)) m (take (length i - 1) (drop 1 i)) → Lex i m (take (length i - 1) (drop 1 i))
byte_signed b i h e l = lex_to (first_is i b h e) l

pub signed_near : (s : Sign) (text x : List ℕ) (at : ℕ) → at ≤ length text → Signed s (take (length text - at) (drop at text)) x → length x + at < length text
signed_near s text x at h k =
    let f = lex_front k.lexed in
    let n : length text - at ≡ length f.0 + length x = sym (length-drop at text) ∙ ap length (sym (rest_is at text) ∙ f.1) ∙ length-append f.0 x in
    omega (arith, f.2)

pub signed_read : (s : Sign) (text x : List ℕ) (at : ℕ) → at ≤ length text → Signed s (take (length text - at) (drop at text)) x → Signed s (drop at text) (drop (length text - length x) text)
signed_read s text x at h k =
    let f = lex_front k.lexed in
    let e : drop (length text - length x) text ≡ x = rest_at text f.0 x at h (sym (rest_is at text) ∙ f.1) in
    subst (λ (w : List ℕ). Signed s w (drop (length text - length x) text)) (rest_is at text) (subst (λ (w : List ℕ). Signed s (take (length text - at) (drop at text)) w) (sym e) k)
