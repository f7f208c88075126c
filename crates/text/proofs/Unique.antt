-- The readers' relation has one answer at most.
use Rattle.std.proofs.Common.{◌≡◌, ℕ, true, false, List, sym, refl, ap, ◌∙◌, subst, ap₂, arith}
use borrow.Author.Tests.{clash}
use Rattle.rules.specs.Trees.{Tree, choice, sequence}
use Rattle.text.specs.Signs.{Mark, open_mark, close_mark, bar_mark, star_mark, dot_mark, one, Lex, lex_close, lex_bar, Ends, ends_empty, ends_close, Stops, stops_empty, stops_close, stops_bar}
use Rattle.text.specs.Readers.{Stars, stars_none, stars_more, Alone, alone_dot, alone_one, ReadText, ReadBranch, ReadPiece, ReadAtom, text_one, text_either, branch_none, branch_one, branch_and, piece, atom_group, atom_alone}
use Rattle.text.proofs.Lexing.{one_sign, begins, stops_begins, lex_to}

abbrev pub Same : Tree → Tree → List ℕ → List ℕ → Type 0
Same t u x y = (t ≡ u) × (x ≡ y)

-- an atom begins with one of its signs
alone_begins : {m : Mark} {t : Tree} → Alone m t → begins m ≡ true
alone_begins alone_dot = refl
alone_begins alone_one = refl

pub atom_begins : {i x y : List ℕ} {t : Tree} {m : Mark} → ReadAtom i t x → Lex i m y → begins m ≡ true
atom_begins (atom_group l r k) n = ap begins (sym (one_sign l n).0)
atom_begins (atom_alone l a) n = ap begins (sym (one_sign l n).0) ∙ alone_begins a

pub no_atom : {i x y : List ℕ} {t : Tree} {m : Mark} → ReadAtom i t x → Lex i m y → begins m ≡ false → ⊥
no_atom a l e = clash (sym e ∙ atom_begins a l)

atom_no_stop : {i x : List ℕ} {t : Tree} → ReadAtom i t x → Stops i → ⊥
atom_no_stop (atom_group l r k) s = clash (sym (stops_begins s l))
atom_no_stop (atom_alone l a) s = clash (sym (stops_begins s l) ∙ alone_begins a)

pub piece_no_stop : {i x : List ℕ} {t : Tree} → ReadPiece i t x → Stops i → ⊥
piece_no_stop (piece a s) h = atom_no_stop a h

pub piece_no_star : {i x z : List ℕ} {t : Tree} → ReadPiece i t x → Lex i star_mark z → ⊥
piece_no_star (piece a s) h = no_atom a h refl

-- the kinds of marks, told apart by numbers
abbrev kind : Mark → ℕ
kind open_mark = 0
kind close_mark = 1
kind bar_mark = 2
kind star_mark = 3
kind dot_mark = 4
kind (one lo hi) = 5

two_signs : {i x y : List ℕ} {m n : Mark} → Lex i m x → Lex i n y → (kind m ≡ kind n → ⊥) → ⊥
two_signs l k h = h (ap kind (one_sign l k).0)

-- where a branch ends, or a text, no sign of another kind stands
pub stops_no_star : {x z : List ℕ} → Stops x → Lex x star_mark z → ⊥
stops_no_star stops_empty l = elim l [ ]
stops_no_star stops_close l = two_signs lex_close l (omega arith)
stops_no_star stops_bar l = two_signs lex_bar l (omega arith)

pub ends_no_bar : {x z : List ℕ} → Ends x → Lex x bar_mark z → ⊥
ends_no_bar ends_empty l = elim l [ ]
ends_no_bar ends_close l = two_signs lex_close l (omega arith)

-- an opening sign stands for no leaf
not_open : {t : Tree} → Alone open_mark t → ⊥
not_open h = elim h [ ]

pub open_not_alone : {i x y : List ℕ} {m : Mark} {t : Tree} → Lex i open_mark x → Lex i m y → Alone m t → ⊥
open_not_alone {t = t} l k h = not_open (subst (λ (w : Mark). Alone w t) (sym (one_sign l k).0) h)

same_alone : {m : Mark} {t u : Tree} → Alone m t → Alone m u → t ≡ u
same_alone alone_dot alone_dot = refl
same_alone alone_one alone_one = refl

alone_same : {m n : Mark} {t u : Tree} {x y : List ℕ} → (m ≡ n) × (x ≡ y) → Alone m t → Alone n u → Same t u x y
alone_same {u = u} e h k = (same_alone h (subst (λ (w : Mark). Alone w u) (sym e.0) k), e.1)

move_stars : {i j x : List ℕ} {t u : Tree} → i ≡ j → Stars i t u x → Stars j t u x
move_stars {x = x} {t = t} {u = u} e s = subst (λ (z : List ℕ). Stars z t u x) e s

pub move_text : {i j x : List ℕ} {t : Tree} → i ≡ j → ReadText i t x → ReadText j t x
move_text {x = x} {t = t} e s = subst (λ (z : List ℕ). ReadText z t x) e s

pub move_branch : {i j x : List ℕ} {t : Tree} → i ≡ j → ReadBranch i t x → ReadBranch j t x
move_branch {x = x} {t = t} e s = subst (λ (z : List ℕ). ReadBranch z t x) e s

pub same_stars : {i x y : List ℕ} {t u v : Tree} → Stars i t u x → Stars i t v y → Same u v x y
same_stars (stars_none h) (stars_none k) = (refl, refl)
same_stars (stars_none h) (stars_more l s) = absurd (h _ l)
same_stars (stars_more l s) (stars_none h) = absurd (h _ l)
same_stars (stars_more l s) (stars_more k r) = same_stars s (move_stars (sym (one_sign l k).1) r)

same_stars_of : {i j x y : List ℕ} {s t u v : Tree} → Same s t i j → Stars i s u x → Stars j t v y → Same u v x y
same_stars_of {i = i} {y = y} {s = s} {v = v} e a b = same_stars a (subst (λ (z : Tree). Stars i z v y) (sym e.0) (move_stars (sym e.1) b))

pair_same : (f : Tree → Tree → Tree) {p q r s : Tree} {x y z w : List ℕ} → Same p r z w → Same q s x y → Same (f p q) (f r s) x y
pair_same f a b = (ap₂ f a.0 b.0, b.1)

mutual
  pub same_text : {i x y : List ℕ} {t u : Tree} → ReadText i t x → ReadText i u y → Same t u x y
  same_text (text_one b e) (text_one c f) = same_branch b c
  same_text (text_one b e) (text_either c l r) = absurd (ends_no_bar (subst Ends (same_branch b c).1 e) l)
  same_text (text_either b l r) (text_one c f) = absurd (ends_no_bar (subst Ends (sym (same_branch b c).1) f) l)
  same_text (text_either b l r) (text_either c k s) =
      let h = same_branch b c in
      pair_same choice h (same_text r (move_text (sym (one_sign l (lex_to h.1 k)).1) s))

  pub same_branch : {i x y : List ℕ} {t u : Tree} → ReadBranch i t x → ReadBranch i u y → Same t u x y
  same_branch (branch_none s) (branch_none k) = (refl, refl)
  same_branch (branch_none s) (branch_one p k) = absurd (piece_no_stop p s)
  same_branch (branch_none s) (branch_and p k b) = absurd (piece_no_stop p s)
  same_branch (branch_one p k) (branch_none s) = absurd (piece_no_stop p s)
  same_branch (branch_one p k) (branch_one q l) = same_piece p q
  same_branch (branch_one p k) (branch_and q l b) = absurd (l (subst Stops (same_piece p q).1 k))
  same_branch (branch_and p k b) (branch_none s) = absurd (piece_no_stop p s)
  same_branch (branch_and p k b) (branch_one q l) = absurd (k (subst Stops (sym (same_piece p q).1) l))
  same_branch (branch_and p k b) (branch_and q l c) =
      let h = same_piece p q in
      pair_same sequence h (same_branch b (move_branch (sym h.1) c))

  pub same_piece : {i x y : List ℕ} {t u : Tree} → ReadPiece i t x → ReadPiece i u y → Same t u x y
  same_piece (piece a s) (piece b r) = same_stars_of (same_atom a b) s r

  pub same_atom : {i x y : List ℕ} {t u : Tree} → ReadAtom i t x → ReadAtom i u y → Same t u x y
  same_atom (atom_group l r k) (atom_group m s n) =
      let h = same_text r (move_text (sym (one_sign l m).1) s) in
      (h.0, (one_sign k (lex_to h.1 n)).1)
  same_atom (atom_group l r k) (atom_alone m a) = absurd (open_not_alone l m a)
  same_atom (atom_alone l a) (atom_group m s n) = absurd (open_not_alone m l a)
  same_atom (atom_alone l a) (atom_alone m b) = alone_same (one_sign l m) a b
