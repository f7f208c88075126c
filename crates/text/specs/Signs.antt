-- Signs: what stands at the front of pattern text. Assumes nothing.
use Rattle.std.specs.Prelude.{◌≡◌, ℕ, ◌≤◌, List, [], ◌∷◌, ◌++◌, length, slice_index}
use Rattle.text.specs.declared.sign.Sign.{Sign}
use Rattle.text.specs.declared.sign.Sign.TheVariants.{Open, Close, Bar, Star, Dot, Plain, Escape, Class}
use Rattle.text.specs.Grammar.{Plain as PlainByte}

-- what a sign means to the readers; one lo hi is a leaf
pub data Mark : Type 0 where
  open_mark : Mark
  close_mark : Mark
  bar_mark : Mark
  star_mark : Mark
  dot_mark : Mark
  one : ℕ → ℕ → Mark

-- the input begins with a sign of this mark, and the rest follows
pub data Lex : List ℕ → Mark → List ℕ → Type 0 where
  lex_open : {x : List ℕ} → Lex (40 ∷ x) open_mark x
  lex_close : {x : List ℕ} → Lex (41 ∷ x) close_mark x
  lex_bar : {x : List ℕ} → Lex (124 ∷ x) bar_mark x
  lex_star : {x : List ℕ} → Lex (42 ∷ x) star_mark x
  lex_dot : {x : List ℕ} → Lex (46 ∷ x) dot_mark x
  lex_plain : {b : ℕ} {x : List ℕ} → PlainByte b → Lex (b ∷ x) (one b b) x
  lex_escape : {b : ℕ} {x : List ℕ} → Lex (92 ∷ b ∷ x) (one b b) x
  lex_class : {lo hi : ℕ} {x : List ℕ} → lo ≤ hi → Lex (91 ∷ lo ∷ 45 ∷ hi ∷ 93 ∷ x) (one lo hi) x

-- the mark of the sign that the lexer yields
abbrev pub mark : Sign → Mark
mark Open = open_mark
mark Close = close_mark
mark Bar = bar_mark
mark Star = star_mark
mark Dot = dot_mark
mark (Plain b) = one b b
mark (Escape r) = one (slice_index r.now 1) (slice_index r.now 1)
mark (Class r) = one (slice_index r.now 1) (slice_index r.now 3)

-- an escape and a class borrow the front of the input, two bytes and five
abbrev pub Borrows : Sign → List ℕ → List ℕ → Type 0
Borrows Open i x = Unit {0}
Borrows Close i x = Unit {0}
Borrows Bar i x = Unit {0}
Borrows Star i x = Unit {0}
Borrows Dot i x = Unit {0}
Borrows (Plain b) i x = Unit {0}
Borrows (Escape r) i x = (length r.now ≡ 2) × (i ≡ r.now ++ x)
Borrows (Class r) i x = (length r.now ≡ 5) × (i ≡ r.now ++ x)

-- the input begins with this sign, and x follows
pub record Signed (s : Sign) (i x : List ℕ) : Type 0 where
  pub lexed : Lex i (mark s) x
  pub borrows : Borrows s i x

-- no sign stands in front
abbrev pub Unsigned : List ℕ → Type 0
Unsigned i = (m : Mark) (x : List ℕ) → Lex i m x → ⊥

-- where a text ends
pub data Ends : List ℕ → Type 0 where
  ends_empty : Ends []
  ends_close : {x : List ℕ} → Ends (41 ∷ x)

-- where a branch ends
pub data Stops : List ℕ → Type 0 where
  stops_empty : Stops []
  stops_close : {x : List ℕ} → Stops (41 ∷ x)
  stops_bar : {x : List ℕ} → Stops (124 ∷ x)
