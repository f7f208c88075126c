-- Pattern text read from the left: what each reader takes from the front of its input, and what it leaves. Assumes nothing.
use Rattle.std.specs.Prelude.{ℕ, List}
use Rattle.rules.specs.Trees.{Tree, empty, leaf, choice, sequence, star}
use Rattle.text.specs.Signs.{Mark, open_mark, close_mark, bar_mark, star_mark, dot_mark, one, Lex, Ends, Stops}

-- after a piece t, the stars that follow make it u
pub data Stars : List ℕ → Tree → Tree → List ℕ → Type 0 where
  stars_none : {i : List ℕ} {t : Tree} → ((x : List ℕ) → Lex i star_mark x → ⊥) → Stars i t t i
  stars_more : {i y x : List ℕ} {t u : Tree} → Lex i star_mark y → Stars y (star t) u x → Stars i t u x

-- the tree of an atom that is one sign
pub data Alone : Mark → Tree → Type 0 where
  alone_dot : Alone dot_mark (leaf 0 255)
  alone_one : {lo hi : ℕ} → Alone (one lo hi) (leaf lo hi)

mutual
  pub data ReadText : List ℕ → Tree → List ℕ → Type 0 where
    text_one : {i x : List ℕ} {t : Tree} → ReadBranch i t x → Ends x → ReadText i t x
    text_either : {i y z x : List ℕ} {p q : Tree} → ReadBranch i p y → Lex y bar_mark z → ReadText z q x → ReadText i (choice p q) x

  pub data ReadBranch : List ℕ → Tree → List ℕ → Type 0 where
    branch_none : {i : List ℕ} → Stops i → ReadBranch i empty i
    branch_one : {i x : List ℕ} {t : Tree} → ReadPiece i t x → Stops x → ReadBranch i t x
    branch_and : {i y x : List ℕ} {p q : Tree} → ReadPiece i p y → (Stops y → ⊥) → ReadBranch y q x → ReadBranch i (sequence p q) x

  pub data ReadPiece : List ℕ → Tree → List ℕ → Type 0 where
    piece : {i y x : List ℕ} {t u : Tree} → ReadAtom i t y → Stars y t u x → ReadPiece i u x

  pub data ReadAtom : List ℕ → Tree → List ℕ → Type 0 where
    atom_group : {i y z x : List ℕ} {t : Tree} → Lex i open_mark y → ReadText y t z → Lex z close_mark x → ReadAtom i t x
    atom_alone : {i x : List ℕ} {m : Mark} {t : Tree} → Lex i m x → Alone m t → ReadAtom i t x
