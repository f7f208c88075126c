-- Pattern text: which bytes are a text, and the tree that they write. Assumes nothing.
use Rattle.std.specs.Prelude.{◌≡◌, ℕ, ◌≤◌, List, [], ◌∷◌, ◌++◌, ◌≢◌}
use Rattle.rules.specs.Trees.{Tree, empty, leaf, choice, sequence, star}

-- a byte with no meaning of its own: none of ( ) | * [ ] \ .
pub record Plain (b : ℕ) : Type 0 where
  pub not_open : b ≡ 40 → ⊥
  pub not_close : b ≡ 41 → ⊥
  pub not_bar : b ≡ 124 → ⊥
  pub not_star : b ≡ 42 → ⊥
  pub not_class : b ≡ 91 → ⊥
  pub not_class_end : b ≡ 93 → ⊥
  pub not_escape : b ≡ 92 → ⊥
  pub not_dot : b ≡ 46 → ⊥

mutual
  -- a branch, or a branch, `|` and a text
  pub data Text : List ℕ → Tree → Type 0 where
    one_branch : {b : List ℕ} {t : Tree} → Branch b t → Text b t
    either : {b c : List ℕ} {p q : Tree} → Branch b p → Text c q → Text (b ++ (124 ∷ c)) (choice p q)

  -- nothing, a piece, or a piece and a branch that is not nothing
  pub data Branch : List ℕ → Tree → Type 0 where
    no_piece : Branch [] empty
    one_piece : {b : List ℕ} {t : Tree} → Piece b t → Branch b t
    piece_and : {b c : List ℕ} {p q : Tree} → Piece b p → Branch c q → (c ≢ []) → Branch (b ++ c) (sequence p q)

  -- an atom, or a piece and `*`
  pub data Piece : List ℕ → Tree → Type 0 where
    plain_piece : {b : List ℕ} {t : Tree} → Atom b t → Piece b t
    starred : {b : List ℕ} {t : Tree} → Piece b t → Piece (b ++ (42 ∷ [])) (star t)

  -- `(` text `)`, `.`, `[` low `-` high `]`, `\` and any byte, or a plain byte
  pub data Atom : List ℕ → Tree → Type 0 where
    group : {b : List ℕ} {t : Tree} → Text b t → Atom (40 ∷ (b ++ (41 ∷ []))) t
    dot : Atom (46 ∷ []) (leaf 0 255)
    class : {lo hi : ℕ} → lo ≤ hi → Atom (91 ∷ lo ∷ 45 ∷ hi ∷ 93 ∷ []) (leaf lo hi)
    escaped : {b : ℕ} → Atom (92 ∷ b ∷ []) (leaf b b)
    itself : {b : ℕ} → Plain b → Atom (b ∷ []) (leaf b b)
