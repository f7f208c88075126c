-- What a reader has read, from what the readers that it calls have read.
use Rattle.std.proofs.Common.{◌≡◌, ℕ, ◌+◌, false, List, ◌∷◌, ◌++◌, length, drop, set, sym, refl, ap, ◌∙◌, subst, append_assoc, arith, length-append}
use Rattle.rules.specs.declared.row.Row.{Row}
use Rattle.rules.specs.Trees.{Tree, empty, leaf, choice, sequence, star, row, rows, size}
use Rattle.rules.proofs.RowFacts.{length_rows}
use Rattle.text.specs.Signs.{Mark, open_mark, star_mark, Lex, lex_close, lex_bar, lex_star, mark, Signed, Ends, ends_empty, ends_close, Stops, stops_empty, stops_close, stops_bar}
use Rattle.text.specs.declared.sign.Sign.{Sign}
use Rattle.text.specs.Readers.{stars_none, stars_more, Alone, ReadText, ReadBranch, ReadPiece, ReadAtom, text_one, text_either, branch_none, branch_one, branch_and, piece, atom_group, atom_alone}
use Rattle.text.specs.Written.{Holds, Inserted, Reaches, Refuses, Starred}
use Rattle.text.proofs.Lexing.{one_sign, begins, lex_at, close_is, star_is}
use Rattle.text.proofs.Unique.{same_text, same_branch, same_piece, ends_no_bar, piece_no_stop, no_atom, open_not_alone, move_text, move_branch}
use Rattle.text.proofs.Derives.{branch_stops}
use Rattle.text.proofs.Building.{holds_put, holds_insert}

abbrev Writes : ℕ → List Row → List Row → List Row → Type 0
Writes count old new more = (front : List Row) → length front ≡ count → Holds old front → Holds new (front ++ more)

pair_written : (old s1 s2 new : List Row) (count mid : ℕ) (p q : Tree) (r : Row) → mid ≡ count + size p → Writes count old s1 (rows p) → Inserted s1 count mid r s2 → Writes (mid + 1) s2 new (rows q) → Writes count old new (r ∷ (rows p ++ rows q))
pair_written old s1 s2 new count mid p q r e f i g front long h =
    let whole : length (front ++ rows p) ≡ mid = length-append front (rows p) ∙ omega (arith, length_rows p) in
    let long2 : length (front ++ (r ∷ rows p)) ≡ mid + 1 = length-append front (r ∷ rows p) ∙ omega (arith, length_rows p) in
    let k = holds_insert s1 s2 front (rows p) count mid r i long whole (f front long h) in
    subst (λ (w : List Row). Holds new w) (append_assoc front (r ∷ rows p) (rows q)) (g (front ++ (r ∷ rows p)) long2 k)

stops_last : {x : List ℕ} → Stops x → ((z : List ℕ) → x ≡ 124 ∷ z → ⊥) → Ends x
stops_last stops_empty h = ends_empty
stops_last stops_close h = ends_close
stops_last (stops_bar {x}) h = absurd (h x refl)

pub text_last : {text : List ℕ} {at count to end : ℕ} {old new : List Row} → Reaches ReadBranch text at count to end old new → ((z : List ℕ) → drop to text ≡ 124 ∷ z → ⊥) → Reaches ReadText text at count to end old new
text_last b h = record { tree = b.tree; reads = text_one b.reads (stops_last (branch_stops b.reads) h); counted = b.counted; written = b.written }

pub text_more : {text : List ℕ} {at count a c to end : ℕ} {old s1 s2 new : List Row} → Reaches ReadBranch text at count a c old s1 → drop a text ≡ 124 ∷ drop (a + 1) text → Inserted s1 count c (row 2 0 0) s2 → Reaches ReadText text (a + 1) (c + 1) to end s2 new → Reaches ReadText text at count to end old new
text_more {count = count} {c = c} {old = old} {s1 = s1} {s2 = s2} {new = new} b e i t = record {
  tree = choice b.tree t.tree;
  reads = text_either b.reads (lex_at 124 e lex_bar) t.reads;
  counted = omega arith;
  written = pair_written old s1 s2 new count c b.tree t.tree (row 2 0 0) b.counted b.written i t.written;
}

refused_after_bar : {i y z x : List ℕ} {p t : Tree} → ReadText i t x → ReadBranch i p y → y ≡ 124 ∷ z → Refuses ReadText z → ⊥
refused_after_bar (text_one c f) b e h = ends_no_bar f (lex_at 124 (sym (same_branch b c).1 ∙ e) lex_bar)
refused_after_bar {x = x} (text_either {q = q} c l r) b e h =
    let k = (one_sign l (lex_at 124 (sym (same_branch b c).1 ∙ e) lex_bar)).1 in
    h q x (move_text k r)

pub text_refused_more : {i y z : List ℕ} {p : Tree} → ReadBranch i p y → y ≡ 124 ∷ z → Refuses ReadText z → Refuses ReadText i
text_refused_more b e h t x d = refused_after_bar d b e h

branch_empty : {text : List ℕ} {at count : ℕ} {old : List Row} → Stops (drop at text) → length old ≡ 64 → Reaches ReadBranch text at count at (count + 1) old (set old count (row 0 0 0))
branch_empty {count = count} {old = old} s long = record {
  tree = empty;
  reads = branch_none s;
  counted = refl;
  written = λ front e h. holds_put old front count (row 0 0 0) long e h;
}

pub branch_last : {text : List ℕ} {at count to end : ℕ} {old new : List Row} → Reaches ReadPiece text at count to end old new → Stops (drop to text) → Reaches ReadBranch text at count to end old new
branch_last b s = record { tree = b.tree; reads = branch_one b.reads s; counted = b.counted; written = b.written }

pub branch_more : {text : List ℕ} {at count a c to end : ℕ} {old s1 s2 new : List Row} → Reaches ReadPiece text at count a c old s1 → (Stops (drop a text) → ⊥) → Inserted s1 count c (row 3 0 0) s2 → Reaches ReadBranch text a (c + 1) to end s2 new → Reaches ReadBranch text at count to end old new
branch_more {count = count} {c = c} {old = old} {s1 = s1} {s2 = s2} {new = new} b h i t = record {
  tree = sequence b.tree t.tree;
  reads = branch_and b.reads h t.reads;
  counted = omega arith;
  written = pair_written old s1 s2 new count c b.tree t.tree (row 3 0 0) b.counted b.written i t.written;
}

refused_after_piece : {i y x : List ℕ} {p t : Tree} → ReadBranch i t x → ReadPiece i p y → (Stops y → ⊥) → Refuses ReadBranch y → ⊥
refused_after_piece (branch_none s) b h k = piece_no_stop b s
refused_after_piece (branch_one p s) b h k = h (subst Stops (same_piece p b).1 s)
refused_after_piece {x = x} (branch_and {q = q} p g r) b h k = k q x (move_branch (same_piece p b).1 r)

pub branch_refused_more : {i y : List ℕ} {p : Tree} → ReadPiece i p y → (Stops y → ⊥) → Refuses ReadBranch y → Refuses ReadBranch i
branch_refused_more b h k t x d = refused_after_piece d b h k

-- the stars behind a piece
no_star : {i : List ℕ} → ((z : List ℕ) → i ≡ 42 ∷ z → ⊥) → (z : List ℕ) → Lex i star_mark z → ⊥
no_star h z l = h z (star_is l)

pub stars_last : {text : List ℕ} {start at count : ℕ} {old : List Row} → ((z : List ℕ) → drop at text ≡ 42 ∷ z → ⊥) → (t : Tree) → count ≡ start + size t → Starred text start at at count old old t
stars_last h t e = record { tree = t; reads = stars_none (no_star h); counted = e; written = λ front long k. k }

pub stars_next : {text : List ℕ} {start at count to end : ℕ} {old mid new : List Row} → drop at text ≡ 42 ∷ drop (at + 1) text → Inserted old start count (row 4 0 0) mid → ((t : Tree) → count + 1 ≡ start + size t → Starred text start (at + 1) to end mid new t) → (t : Tree) → count ≡ start + size t → Starred text start at to end old new t
stars_next {start = start} {count = count} {old = old} {mid = mid} e i f t n =
    let r = f (star t) (omega arith) in
    record {
      tree = r.tree;
      reads = stars_more (lex_at 42 e lex_star) r.reads;
      counted = r.counted;
      written = λ front long h. r.written front long (holds_insert old mid front (rows t) start count (row 4 0 0) i long (length-append front (rows t) ∙ omega (arith, length_rows t)) h);
    }

pub piece_read : {text : List ℕ} {at count a c to end : ℕ} {old mid new : List Row} → Reaches ReadAtom text at count a c old mid → ((t : Tree) → c ≡ count + size t → Starred text count a to end mid new t) → Reaches ReadPiece text at count to end old new
piece_read a f =
    let s = f a.tree a.counted in
    record { tree = s.tree; reads = piece a.reads s.reads; counted = s.counted; written = λ front long h. s.written front long (a.written front long h) }

moved : {R : List ℕ → Tree → List ℕ → Type 0} {text : List ℕ} {at count to to2 end end2 : ℕ} {old new new2 : List Row} → to2 ≡ to → end2 ≡ end → new2 ≡ new → Reaches R text at count to end old new → Reaches R text at count to2 end2 old new2
moved {R = R} {text = text} {at = at} {to = to} e f g r = record {
  tree = r.tree;
  reads = subst (λ (n : ℕ). R (drop at text) r.tree (drop n text)) (sym e) r.reads;
  counted = f ∙ r.counted;
  written = λ front long h. subst (λ (w : List Row). Holds w (front ++ rows r.tree)) (sym g) (r.written front long h);
}

pub empty_put : {text : List ℕ} {at count to end : ℕ} {old new : List Row} {r : Row} → r ≡ row 0 0 0 → Stops (drop at text) → length old ≡ 64 → to ≡ at → end ≡ count + 1 → new ≡ set old count r → Reaches ReadBranch text at count to end old new
empty_put {count = count} {old = old} e s long f n g = moved f n (g ∙ ap (λ (w : Row). set old count w) e) (branch_empty s long)

atom_leaf : {text : List ℕ} {at count to lo hi : ℕ} {m : Mark} {old : List Row} → Lex (drop at text) m (drop to text) → Alone m (leaf lo hi) → length old ≡ 64 → Reaches ReadAtom text at count to (count + 1) old (set old count (row 1 lo hi))
atom_leaf {count = count} {lo = lo} {hi = hi} {old = old} l a long = record {
  tree = leaf lo hi;
  reads = atom_alone l a;
  counted = refl;
  written = λ front e h. holds_put old front count (row 1 lo hi) long e h;
}

-- the sign that an arm has
pub as_sign : {s v : Sign} (i x : List ℕ) → s ≡ v → Signed s i x → Lex i (mark v) x
as_sign i x e h = subst (λ (w : Sign). Lex i (mark w) x) e h.lexed

pub leaf_put : {text : List ℕ} {at count after to end lo hi : ℕ} {m : Mark} {old new : List Row} → Lex (drop at text) m (drop after text) → Alone m (leaf lo hi) → length old ≡ 64 → to ≡ after → end ≡ count + 1 → new ≡ set old count (row 1 lo hi) → Reaches ReadAtom text at count to end old new
leaf_put l a long e f g = moved e f g (atom_leaf l a long)

pub atom_grouped : {text : List ℕ} {at count a b end : ℕ} {old new : List Row} → Lex (drop at text) open_mark (drop a text) → Reaches ReadText text a count b end old new → drop b text ≡ 41 ∷ drop (b + 1) text → Reaches ReadAtom text at count (b + 1) end old new
atom_grouped l t e = record { tree = t.tree; reads = atom_group l t.reads (lex_at 41 e lex_close); counted = t.counted; written = t.written }

refused_open : {i x y : List ℕ} {t : Tree} → ReadAtom i t x → Lex i open_mark y → Refuses ReadText y → ⊥
refused_open (atom_group {z = z} {t = t} l r k) m h = h t z (move_text (one_sign l m).1 r)
refused_open (atom_alone l a) m h = open_not_alone m l a

pub atom_refused_open : {i y : List ℕ} → Lex i open_mark y → Refuses ReadText y → Refuses ReadAtom i
atom_refused_open m h t x d = refused_open d m h

refused_close : {i x y z : List ℕ} {t p : Tree} → ReadAtom i t x → Lex i open_mark y → ReadText y p z → ((w : List ℕ) → z ≡ 41 ∷ w → ⊥) → ⊥
refused_close (atom_group {z = v} {t = t} l r k) m s h =
    let e = (same_text (move_text (one_sign l m).1 r) s).1 in
    h _ (sym e ∙ close_is k)
refused_close (atom_alone l a) m s h = open_not_alone m l a

pub atom_refused_close : {i y z : List ℕ} {p : Tree} → Lex i open_mark y → ReadText y p z → ((w : List ℕ) → z ≡ 41 ∷ w → ⊥) → Refuses ReadAtom i
atom_refused_close m s h t x d = refused_close d m s h

pub atom_refused_sign : {i y : List ℕ} {m : Mark} → Lex i m y → begins m ≡ false → Refuses ReadAtom i
atom_refused_sign l e t x d = no_atom d l e
