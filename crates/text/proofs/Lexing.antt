-- A text begins with one sign at most, and with which signs an atom begins.
use Rattle.std.proofs.Common.{◌≡◌, ℕ, ◌<◌, Bool, true, false, cond, eqb, List, [], ◌∷◌, ◌++◌, length, sym, refl, ap, ◌∙◌, subst, arith, ne_eqb}
use Rattle.text.specs.Grammar.{Plain}
use Rattle.text.specs.Signs.{Mark, open_mark, close_mark, bar_mark, star_mark, dot_mark, one, Lex, lex_open, lex_close, lex_bar, lex_star, lex_dot, lex_plain, lex_escape, lex_class, Stops, stops_empty, stops_close, stops_bar}

abbrev byte_or : ℕ → List ℕ → ℕ
byte_or d [] = d
byte_or d (b ∷ x) = b

abbrev after : List ℕ → List ℕ
after [] = []
after (b ∷ x) = x

-- the mark and the rest, where the text begins with a sign
abbrev answer : ℕ → List ℕ → Mark × List ℕ
answer b x = cond (eqb b 40) (open_mark, x) (cond (eqb b 41) (close_mark, x) (cond (eqb b 124) (bar_mark, x) (cond (eqb b 42) (star_mark, x) (cond (eqb b 46) (dot_mark, x) (cond (eqb b 92) (one (byte_or 0 x) (byte_or 0 x), after x) (cond (eqb b 91) (one (byte_or 0 x) (byte_or 0 (after (after x))), after (after (after (after x)))) (one b b, x)))))))

abbrev answered : List ℕ → Mark × List ℕ
answered [] = (star_mark, [])
answered (b ∷ x) = answer b x

computed_plain : (b : ℕ) (x : List ℕ) → Plain b → answer b x ≡ (one b b, x)
computed_plain b x h =
    let e1 : eqb b 40 ≡ false = ne_eqb b 40 h.not_open in
    let e2 : eqb b 41 ≡ false = ne_eqb b 41 h.not_close in
    let e3 : eqb b 124 ≡ false = ne_eqb b 124 h.not_bar in
    let e4 : eqb b 42 ≡ false = ne_eqb b 42 h.not_star in
    let e5 : eqb b 46 ≡ false = ne_eqb b 46 h.not_dot in
    let e6 : eqb b 92 ≡ false = ne_eqb b 92 h.not_escape in
    let e7 : eqb b 91 ≡ false = ne_eqb b 91 h.not_class in
    rw (e1, e2, e3, e4, e5, e6, e7)

computed : {i x : List ℕ} {m : Mark} → Lex i m x → answered i ≡ (m, x)
computed lex_open = refl
computed lex_close = refl
computed lex_bar = refl
computed lex_star = refl
computed lex_dot = refl
computed (lex_plain {b} {x} h) = computed_plain b x h
computed lex_escape = refl
computed (lex_class h) = refl

pub one_sign : {i x y : List ℕ} {m n : Mark} → Lex i m x → Lex i n y → (m ≡ n) × (x ≡ y)
one_sign l k = (ap (λ (p : Mark × List ℕ). p.0) (sym (computed l) ∙ computed k), ap (λ (p : Mark × List ℕ). p.1) (sym (computed l) ∙ computed k))

-- whether an atom begins with this sign
abbrev pub begins : Mark → Bool
begins open_mark = true
begins close_mark = false
begins bar_mark = false
begins star_mark = false
begins dot_mark = true
begins (one lo hi) = true

pub stops_begins : {x z : List ℕ} {m : Mark} → Stops x → Lex x m z → begins m ≡ false
stops_begins stops_empty l = elim l [ ]
stops_begins stops_close l = ap begins (sym (one_sign lex_close l).0)
stops_begins stops_bar l = ap begins (sym (one_sign lex_bar l).0)

-- the bytes of the signs that are one byte, and of any sign
pub open_is : {i x : List ℕ} → Lex i open_mark x → i ≡ 40 ∷ x
open_is lex_open = refl

pub close_is : {i x : List ℕ} → Lex i close_mark x → i ≡ 41 ∷ x
close_is lex_close = refl

pub bar_is : {i x : List ℕ} → Lex i bar_mark x → i ≡ 124 ∷ x
bar_is lex_bar = refl

pub star_is : {i x : List ℕ} → Lex i star_mark x → i ≡ 42 ∷ x
star_is lex_star = refl

pub lex_front : {i x : List ℕ} {m : Mark} → Lex i m x → (b : List ℕ) × (i ≡ b ++ x) × (0 < length b)
lex_front lex_open = (40 ∷ [], refl, omega arith)
lex_front lex_close = (41 ∷ [], refl, omega arith)
lex_front lex_bar = (124 ∷ [], refl, omega arith)
lex_front lex_star = (42 ∷ [], refl, omega arith)
lex_front lex_dot = (46 ∷ [], refl, omega arith)
lex_front (lex_plain {b} h) = (b ∷ [], refl, omega arith)
lex_front (lex_escape {b}) = (92 ∷ b ∷ [], refl, omega arith)
lex_front (lex_class {lo} {hi} h) = (91 ∷ lo ∷ 45 ∷ hi ∷ 93 ∷ [], refl, omega arith)

-- the same sign of an input that is given by an equation
pub lex_to : {i j x : List ℕ} {m : Mark} → i ≡ j → Lex j m x → Lex i m x
lex_to {x = x} {m = m} e l = subst (λ (w : List ℕ). Lex w m x) (sym e) l

pub lex_at : {i x : List ℕ} (b : ℕ) {m : Mark} → i ≡ b ∷ x → Lex (b ∷ x) m x → Lex i m x
lex_at b e l = lex_to e l
