-- The readers' relation is the grammar, read from the left; so no text has two trees.
use Rattle.std.proofs.Common.{◌≡◌, ℕ, List, [], ◌∷◌, ◌++◌, length, sym, refl, ap, ◌∙◌, subst, append_assoc, append-nil, arith, length-append}
use Rattle.rules.specs.Trees.{Tree, leaf, choice, sequence}
use Rattle.text.specs.Grammar.{Text, Branch, Piece, Atom, one_branch, either, no_piece, one_piece, piece_and, plain_piece, starred, group, dot, class, escaped, itself}
use Rattle.text.specs.Signs.{Mark, dot_mark, one, star_mark, Lex, lex_open, lex_close, lex_bar, lex_star, lex_dot, lex_plain, lex_escape, lex_class, Ends, ends_empty, ends_close, Stops, stops_empty, stops_close, stops_bar}
use Rattle.text.specs.Readers.{Stars, stars_none, stars_more, Alone, alone_dot, alone_one, ReadText, ReadBranch, ReadPiece, ReadAtom, text_one, text_either, branch_none, branch_one, branch_and, piece, atom_group, atom_alone}
use Rattle.text.proofs.Lexing.{open_is, close_is, bar_is, star_is}
use Rattle.text.proofs.Unique.{same_text, stops_no_star, piece_no_stop, piece_no_star}

-- the front of i that G derives, up to x
abbrev pub Took : (List ℕ → Tree → Type 0) → List ℕ → Tree → List ℕ → Type 0
Took G i t x = (b : List ℕ) × G b t × (i ≡ b ++ x)

dot_is : {i x : List ℕ} → Lex i dot_mark x → Took Atom i (leaf 0 255) x
dot_is lex_dot = (46 ∷ [], dot, refl)

one_is : {i x : List ℕ} {lo hi : ℕ} → Lex i (one lo hi) x → Took Atom i (leaf lo hi) x
one_is (lex_plain {b} h) = (b ∷ [], itself h, refl)
one_is (lex_escape {b}) = (92 ∷ b ∷ [], escaped, refl)
one_is (lex_class {lo} {hi} h) = (91 ∷ lo ∷ 45 ∷ hi ∷ 93 ∷ [], class h, refl)

alone_is : {i x : List ℕ} {m : Mark} {t : Tree} → Alone m t → Lex i m x → Took Atom i t x
alone_is alone_dot l = dot_is l
alone_is alone_one l = one_is l

pub ends_stops : {x : List ℕ} → Ends x → Stops x
ends_stops ends_empty = stops_empty
ends_stops ends_close = stops_close

pub branch_stops : {i x : List ℕ} {t : Tree} → ReadBranch i t x → Stops x
branch_stops (branch_none s) = s
branch_stops (branch_one p s) = s
branch_stops (branch_and p h b) = branch_stops b

pub text_ends : {i x : List ℕ} {t : Tree} → ReadText i t x → Ends x
text_ends (text_one b e) = e
text_ends (text_either b l r) = text_ends r

took_stars : {y x b : List ℕ} {t u : Tree} → Stars y t u x → Piece b t → Took Piece (b ++ y) u x
took_stars {b = b} (stars_none h) p = (b, p, refl)
took_stars {b = b} (stars_more {y = z} l s) p =
    let r = took_stars s (starred p) in
    (r.0, r.1, ap (λ (w : List ℕ). b ++ w) (star_is l) ∙ sym (append_assoc b (42 ∷ []) z) ∙ r.2)

took_piece : {i y x : List ℕ} {t u : Tree} → Took Atom i t y → Stars y t u x → Took Piece i u x
took_piece a s =
    let r = took_stars s (plain_piece a.1) in
    (r.0, r.1, a.2 ∙ r.2)

took_either : {i y z x : List ℕ} {p q : Tree} → Took Branch i p y → y ≡ 124 ∷ z → Took Text z q x → Took Text i (choice p q) x
took_either {x = x} a e b =
    (a.0 ++ (124 ∷ b.0), either a.1 b.1, a.2 ∙ ap (λ (w : List ℕ). a.0 ++ w) (e ∙ ap (λ (w : List ℕ). 124 ∷ w) b.2) ∙ sym (append_assoc a.0 (124 ∷ b.0) x))

took_and : {i y x : List ℕ} {p q : Tree} → Took Piece i p y → (y ≡ x → ⊥) → Took Branch y q x → Took Branch i (sequence p q) x
took_and {x = x} a h b =
    (a.0 ++ b.0, piece_and a.1 b.1 (λ e. h (b.2 ∙ ap (λ (w : List ℕ). w ++ x) e)), a.2 ∙ ap (λ (w : List ℕ). a.0 ++ w) b.2 ∙ sym (append_assoc a.0 b.0 x))

took_group : {i y z x : List ℕ} {t : Tree} → i ≡ 40 ∷ y → Took Text y t z → z ≡ 41 ∷ x → Took Atom i t x
took_group {x = x} e a f =
    (40 ∷ (a.0 ++ (41 ∷ [])), group a.1, e ∙ ap (λ (w : List ℕ). 40 ∷ w) (a.2 ∙ ap (λ (w : List ℕ). a.0 ++ w) f ∙ sym (append_assoc a.0 (41 ∷ []) x)))

mutual
  pub took_text : {i x : List ℕ} {t : Tree} → ReadText i t x → Took Text i t x
  took_text (text_one b e) = let r = took_branch b in (r.0, one_branch r.1, r.2)
  took_text (text_either b l r) = took_either (took_branch b) (bar_is l) (took_text r)

  pub took_branch : {i x : List ℕ} {t : Tree} → ReadBranch i t x → Took Branch i t x
  took_branch (branch_none s) = ([], no_piece, refl)
  took_branch (branch_one p s) = let r = took_of_piece p in (r.0, one_piece r.1, r.2)
  took_branch (branch_and p h b) = took_and (took_of_piece p) (λ e. h (subst Stops (sym e) (branch_stops b))) (took_branch b)

  pub took_of_piece : {i x : List ℕ} {t : Tree} → ReadPiece i t x → Took Piece i t x
  took_of_piece (piece a s) = took_piece (took_atom a) s

  pub took_atom : {i x : List ℕ} {t : Tree} → ReadAtom i t x → Took Atom i t x
  took_atom (atom_group l r k) = took_group (open_is l) (took_text r) (close_is k)
  took_atom (atom_alone l a) = alone_is a l

no_front : (c x : List ℕ) → x ≡ c ++ x → c ≡ []
no_front [] x e = refl
no_front (b ∷ c) x e = absurd (omega (arith, simp length-append at (ap length e)))

-- a branch that takes a byte goes on from there
goes_on : {j x c : List ℕ} {t : Tree} → ReadBranch j t x → j ≡ c ++ x → (c ≡ [] → ⊥) → Stops j → ⊥
goes_on {c = c} (branch_none {i} s) e h k = h (no_front c i e)
goes_on (branch_one p s) e h k = piece_no_stop p k
goes_on (branch_and p g b) e h k = piece_no_stop p k

goes_on_star : {j x c z : List ℕ} {t : Tree} → ReadBranch j t x → j ≡ c ++ x → (c ≡ [] → ⊥) → Lex j star_mark z → ⊥
goes_on_star {c = c} (branch_none {i} s) e h k = h (no_front c i e)
goes_on_star (branch_one p s) e h k = piece_no_star p k
goes_on_star (branch_and p g b) e h k = piece_no_star p k

regroup_text : (b c : List ℕ) {x : List ℕ} {t : Tree} → ReadText (b ++ (c ++ x)) t x → ReadText ((b ++ c) ++ x) t x
regroup_text b c {x} {t} r = subst (λ (w : List ℕ). ReadText w t x) (sym (append_assoc b c x)) r

regroup_branch : (b c : List ℕ) {x : List ℕ} {t : Tree} → ReadBranch (b ++ (c ++ x)) t x → ReadBranch ((b ++ c) ++ x) t x
regroup_branch b c {x} {t} r = subst (λ (w : List ℕ). ReadBranch w t x) (sym (append_assoc b c x)) r

regroup_piece : (b c x : List ℕ) {y : List ℕ} {t : Tree} → ReadPiece (b ++ (c ++ x)) t y → ReadPiece ((b ++ c) ++ x) t y
regroup_piece b c x {y} {t} r = subst (λ (w : List ℕ). ReadPiece w t y) (sym (append_assoc b c x)) r

find_group : (b : List ℕ) {x : List ℕ} {t : Tree} → ReadText (b ++ (41 ∷ x)) t (41 ∷ x) → ReadAtom (40 ∷ ((b ++ (41 ∷ [])) ++ x)) t x
find_group b {x} {t} r = atom_group lex_open (subst (λ (w : List ℕ). ReadText w t (41 ∷ x)) (sym (append_assoc b (41 ∷ []) x)) r) lex_close

mutual
  pub find_text : {b x : List ℕ} {t : Tree} → Text b t → Ends x → ReadText (b ++ x) t x
  find_text (one_branch d) e = text_one (find_branch d (ends_stops e)) e
  find_text {x = x} (either {b} {c} {p} {q} d r) e = regroup_text b (124 ∷ c) (text_either (find_branch d stops_bar) lex_bar (find_text r e))

  pub find_branch : {b x : List ℕ} {t : Tree} → Branch b t → Stops x → ReadBranch (b ++ x) t x
  find_branch no_piece s = branch_none s
  find_branch (one_piece p) s = branch_one (find_piece p (stars_none (λ z l. stops_no_star s l))) s
  find_branch {x = x} (piece_and {b} {c} {p} {q} d r h) s =
      let k = find_branch r s in
      regroup_branch b c (branch_and (find_piece d (stars_none (λ z l. goes_on_star k refl h l))) (goes_on k refl h) k)

  pub find_piece : {b x y : List ℕ} {t u : Tree} → Piece b t → Stars x t u y → ReadPiece (b ++ x) u y
  find_piece (plain_piece a) s = piece (find_atom a) s
  find_piece {x = x} (starred {b} d) s = regroup_piece b (42 ∷ []) x (find_piece d (stars_more lex_star s))

  pub find_atom : {b x : List ℕ} {t : Tree} → Atom b t → ReadAtom (b ++ x) t x
  find_atom (group {b} r) = find_group b (find_text r ends_close)
  find_atom dot = atom_alone lex_dot alone_dot
  find_atom (class h) = atom_alone (lex_class h) alone_one
  find_atom escaped = atom_alone lex_escape alone_one
  find_atom (itself h) = atom_alone (lex_plain h) alone_one

-- a text writes one rule at most
pub one_tree : {b : List ℕ} {t u : Tree} → Text b t → Text b u → t ≡ u
one_tree d e = (same_text (find_text d ends_empty) (find_text e ends_empty)).0

-- the whole text is derived exactly where the reader leaves nothing
pub derives_reads : {b : List ℕ} {t : Tree} → Text b t → ReadText b t []
derives_reads {b} {t} d = subst (λ (w : List ℕ). ReadText w t []) (append-nil b) (find_text d ends_empty)

pub reads_derives : {b : List ℕ} {t : Tree} → ReadText b t [] → Text b t
reads_derives {b} {t} d = let r = took_text d in subst (λ (w : List ℕ). Text w t) (sym (r.2 ∙ append-nil r.0)) r.1
