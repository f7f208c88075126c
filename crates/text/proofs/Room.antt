-- How many rows a reader writes for the bytes that it reads.
use Rattle.std.proofs.Common.{◌≡◌, ℕ, ◌+◌, ◌-◌, ◌*◌, ◌<◌, ◌≤◌, List, length, drop, ap, arith, length-drop}
use Rattle.rules.specs.Trees.{Tree, empty, leaf, choice, sequence, star, size}
use Rattle.text.specs.Signs.{Mark, Lex, lex_open, lex_close, lex_bar, lex_star, lex_dot, lex_plain, lex_escape, lex_class}
use Rattle.text.specs.Readers.{Stars, stars_none, stars_more, Alone, alone_dot, alone_one, ReadText, ReadBranch, ReadPiece, ReadAtom, text_one, text_either, branch_none, branch_one, branch_and, piece, atom_group, atom_alone}
use Rattle.text.specs.declared.readers.Reader.{Reader}
use Rattle.text.specs.Steps.{Goes}

lex_room : {i x : List ℕ} {m : Mark} → Lex i m x → length x + 1 ≤ length i
lex_room lex_open = omega arith
lex_room lex_close = omega arith
lex_room lex_bar = omega arith
lex_room lex_star = omega arith
lex_room lex_dot = omega arith
lex_room (lex_plain p) = omega arith
lex_room lex_escape = omega arith
lex_room (lex_class h) = omega arith

stars_room : {i x : List ℕ} {t u : Tree} → Stars i t u x → size u + 2 * length x ≤ size t + 2 * length i
stars_room (stars_none h) = omega arith
stars_room (stars_more l s) = omega (arith, lex_room l, stars_room s)

alone_room : {m : Mark} {t : Tree} → Alone m t → size t ≡ 1
alone_room alone_dot = omega arith
alone_room alone_one = omega arith

mutual
  text_room : {i x : List ℕ} {t : Tree} → ReadText i t x → size t + 2 * length x ≤ 2 * length i + 1
  text_room (text_one b e) = branch_room b
  text_room (text_either b l r) = omega (arith, branch_room b, lex_room l, text_room r)

  branch_room : {i x : List ℕ} {t : Tree} → ReadBranch i t x → size t + 2 * length x ≤ 2 * length i + 1
  branch_room (branch_none s) = omega arith
  branch_room (branch_one p s) = omega (arith, piece_room p)
  branch_room (branch_and p g b) = omega (arith, piece_room p, branch_room b)

  piece_room : {i x : List ℕ} {t : Tree} → ReadPiece i t x → size t + 2 * length x + 1 ≤ 2 * length i
  piece_room (piece a s) = omega (arith, atom_room a, stars_room s)

  atom_room : {i x : List ℕ} {t : Tree} → ReadAtom i t x → size t + 2 * length x + 1 ≤ 2 * length i
  atom_room (atom_group l r k) = omega (arith, lex_room l, text_room r, lex_room k)
  atom_room (atom_alone l a) = omega (arith, lex_room l, alone_room a)

size_positive : (t : Tree) → 1 ≤ size t
size_positive empty = omega arith
size_positive (leaf lo hi) = omega arith
size_positive (choice p q) = omega arith
size_positive (sequence p q) = omega arith
size_positive (star p) = omega arith

-- the same of a reader
pub branch_reached : {old new : Reader} → Goes ReadBranch old new → (old.at ≤ new.at) × (length new.text.now ≡ length old.text.now)
branch_reached {old} {new} g =
    let e : length new.text.now ≡ length old.text.now = ap length g.text in
    (omega (arith, old.within, new.within, branch_room g.reaches.reads, length-drop old.at old.text.now, length-drop new.at old.text.now, size_positive g.reaches.tree), e)

pub piece_reached : {old new : Reader} → Goes ReadPiece old new → (new.count + 2 * old.at + 1 ≤ old.count + 2 * new.at) × (old.at < new.at) × (length new.text.now ≡ length old.text.now)
piece_reached {old} {new} g =
    let e : length new.text.now ≡ length old.text.now = ap length g.text in
    let r = piece_room g.reaches.reads in
    let n : length (drop old.at old.text.now) ≡ length old.text.now - old.at = length-drop old.at old.text.now in
    let m : length (drop new.at old.text.now) ≡ length old.text.now - new.at = length-drop new.at old.text.now in
    (omega (arith, old.within, new.within, g.reaches.counted), omega (arith, old.within, new.within, size_positive g.reaches.tree), e)
