-- What a reader has read, from the steps that it took.
use Rattle.std.proofs.Common.{◌≡◌, ◌⊎◌, inl, inr, ℕ, ◌+◌, ◌<◌, List, ◌∷◌, ◌++◌, length, drop, set, sym, refl, ap, ◌∙◌, subst}
use Rattle.rules.specs.declared.row.Row.{Row}
use Rattle.rules.specs.Trees.{Tree, leaf, row, rows, size}
use Rattle.text.specs.declared.readers.Reader.{Reader}
use Rattle.text.specs.declared.sign.Sign.{Sign}
use Rattle.text.specs.declared.sign.Sign.TheVariants.{Open, Close, Bar, Star}
use Rattle.text.specs.Signs.{open_mark, Lex, mark, Signed, Stops}
use Rattle.text.specs.Readers.{Alone, ReadText, ReadBranch, ReadPiece, ReadAtom}
use Rattle.text.specs.Written.{Holds, Inserted, Reaches, Refuses, Starred}
use Rattle.text.specs.Steps.{Goes, Grows, Moved, Takes}
use Rattle.text.proofs.Combine.{text_last, text_more, text_refused_more, branch_last, branch_more, branch_refused_more, piece_read, stars_last, stars_next, atom_grouped, atom_refused_open, atom_refused_sign, as_sign, atom_refused_close, leaf_put}

-- the same from a beginning that is given by equations
pub moved_from : {R : List ℕ → Tree → List ℕ → Type 0} {text text2 : List ℕ} {at at2 count count2 to end : ℕ} {old old2 new : List Row} → text2 ≡ text → at2 ≡ at → count2 ≡ count → old2 ≡ old → Reaches R text2 at2 count2 to end old2 new → Reaches R text at count to end old new
moved_from {R = R} {text = text} {text2 = text2} {at = at} {at2 = at2} {count = count} {count2 = count2} {to = to} {end = end} {old = old} {old2 = old2} {new = new} e f g h r =
    subst (λ (w : List ℕ). Reaches R w at count to end old new) e
    (subst (λ (n : ℕ). Reaches R text2 n count to end old new) f
    (subst (λ (n : ℕ). Reaches R text2 at2 n to end old new) g
    (subst (λ (w : List Row). Reaches R text2 at2 count2 to end w new) h r)))

put_in : {old old2 new : List Row} {at end end2 : ℕ} {r : Row} → old2 ≡ old → end2 ≡ end → Inserted old2 at end2 r new → Inserted old at end r new
put_in {old} {old2} {new} {at} {end} {end2} {r} e f i = subst (λ (w : List Row). Inserted w at end r new) e (subst (λ (n : ℕ). Inserted old2 at n r new) f i)

here_in : {text text2 : List ℕ} {byte : ℕ} (at : ℕ) → text2 ≡ text → drop at text2 ≡ byte ∷ drop (at + 1) text2 → drop at text ≡ byte ∷ drop (at + 1) text
here_in {byte = byte} at e h = subst (λ (w : List ℕ). drop at w ≡ byte ∷ drop (at + 1) w) e h

-- the row is given by an equation
pub grown_as : {old new : Reader} {at : ℕ} {r s : Row} → r ≡ s → Grows old new at r → Grows old new at s
grown_as {old} {new} {at} e g = subst (λ (w : Row). Grows old new at w) e g

-- what cannot be read with the row more cannot be read without it
refused_before : (R : List ℕ → Tree → List ℕ → Type 0) {old new : Reader} {at : ℕ} {r : Row} → Grows old new at r → Refuses R (drop new.at new.text.now) → Refuses R (drop old.at old.text.now)
refused_before R {old} {new} i h = subst (λ (w : List ℕ). Refuses R (drop old.at w)) i.text (subst (λ (n : ℕ). Refuses R (drop n new.text.now)) i.read h)

-- a text: a branch, and what follows `|`
pub text_goes : {old b t u new : Reader} → Goes ReadBranch old b → Takes b t 124 → Grows t u old.count (row 2 0 0) → Goes ReadText u new → Goes ReadText old new
text_goes {b = b} g k i h = record {
  text = h.text ∙ i.text ∙ k.moved.text ∙ g.text;
  reaches = text_more g.reaches (here_in b.at g.text k.here) (put_in k.moved.rows k.moved.count i.rows)
      (moved_from (i.text ∙ k.moved.text ∙ g.text) (i.read ∙ k.at) (i.count ∙ ap (λ (c : ℕ). c + 1) k.moved.count) refl h.reaches);
}

pub text_stays : {old b t u : Reader} {at : ℕ} {r : Row} → Goes ReadBranch old b → Takes b t 124 → Grows t u at r → Refuses ReadText (drop u.at u.text.now) → Refuses ReadText (drop old.at old.text.now)
text_stays {b = b} {t = t} g k i h =
    text_refused_more g.reaches.reads (here_in b.at g.text k.here)
    (subst (λ (w : List ℕ). Refuses ReadText (drop (b.at + 1) w)) (k.moved.text ∙ g.text) (subst (λ (n : ℕ). Refuses ReadText (drop n t.text.now)) k.at (refused_before ReadText i h)))

pub text_ends : {old b t : Reader} → Goes ReadBranch old b → (t ≡ b) × ((z : List ℕ) → drop b.at b.text.now ≡ 124 ∷ z → ⊥) → Goes ReadText old t
text_ends {old} {b} g h =
    subst (λ (r : Reader). Goes ReadText old r) (sym h.0) (record { text = g.text; reaches = text_last g.reaches (λ z e. h.1 z (ap (drop b.at) g.text ∙ e)) })

-- a branch: a piece, and a branch that is not nothing
pub branch_goes : {old p u new : Reader} → Goes ReadPiece old p → (Stops (drop p.at p.text.now) → ⊥) → Grows p u old.count (row 3 0 0) → Goes ReadBranch u new → Goes ReadBranch old new
branch_goes {p = p} g s i h = record {
  text = h.text ∙ i.text ∙ g.text;
  reaches = branch_more g.reaches (λ k. s (subst (λ (w : List ℕ). Stops (drop p.at w)) (sym g.text) k)) i.rows (moved_from (i.text ∙ g.text) i.read i.count refl h.reaches);
}

pub branch_stays : {old p u : Reader} {at : ℕ} {r : Row} → Goes ReadPiece old p → (Stops (drop p.at p.text.now) → ⊥) → Grows p u at r → Refuses ReadBranch (drop u.at u.text.now) → Refuses ReadBranch (drop old.at old.text.now)
branch_stays {p = p} g s i h =
    branch_refused_more g.reaches.reads (λ k. s (subst (λ (w : List ℕ). Stops (drop p.at w)) (sym g.text) k))
    (subst (λ (w : List ℕ). Refuses ReadBranch (drop p.at w)) g.text (refused_before ReadBranch i h))

pub branch_ends : {old p : Reader} → Goes ReadPiece old p → Stops (drop p.at p.text.now) → Goes ReadBranch old p
branch_ends {p = p} g s = record { text = g.text; reaches = branch_last g.reaches (subst (λ (w : List ℕ). Stops (drop p.at w)) g.text s) }

-- the stars behind a piece
pub stars_go : {old t u : Reader} {start to end : ℕ} {new : List Row} → Takes old t 42 → Grows t u start (row 4 0 0) → ((v : Tree) → u.count ≡ start + size v → Starred u.text.now start u.at to end u.rows new v) → (v : Tree) → old.count ≡ start + size v → Starred old.text.now start old.at to end old.rows new v
stars_go {old} {t} {u} {start} {to} {end} {new} k i g =
    stars_next k.here (put_in k.moved.rows k.moved.count i.rows)
    (λ v c. subst (λ (w : List ℕ). Starred w start (old.at + 1) to end u.rows new v) (i.text ∙ k.moved.text) (subst (λ (a : ℕ). Starred u.text.now start a to end u.rows new v) (i.read ∙ k.at) (g v (i.count ∙ ap (λ (c : ℕ). c + 1) k.moved.count ∙ c))))

pub stars_end : {old new : Reader} {start : ℕ} → (new ≡ old) × ((z : List ℕ) → drop old.at old.text.now ≡ 42 ∷ z → ⊥) → (u : Tree) → old.count ≡ start + size u → Starred old.text.now start old.at new.at new.count old.rows new.rows u
stars_end {old} {new} {start} h u e = subst (λ (r : Reader). Starred old.text.now start old.at r.at r.count old.rows r.rows u) (sym h.0) (stars_last h.1 u e)

pub piece_goes : {old a new : Reader} → Goes ReadAtom old a → new.text.now ≡ a.text.now → ((u : Tree) → a.count ≡ old.count + size u → Starred a.text.now old.count a.at new.at new.count a.rows new.rows u) → Goes ReadPiece old new
piece_goes {old} {a} {new} g e s = record {
  text = e ∙ g.text;
  reaches = piece_read g.reaches (λ u c. subst (λ (w : List ℕ). Starred w old.count a.at new.at new.count a.rows new.rows u) g.text (s u c));
}

-- the next sign is read
abbrev Sees : Sign → Reader → Reader → Type 0
Sees v old s = Moved old s × (old.at < s.at) × Signed v (drop old.at old.text.now) (drop s.at old.text.now)

-- an atom: its sign, and what follows `(`
pub opened : {sign : Sign} {old s t new : Reader} → sign ≡ Open → Sees sign old s → Goes ReadText s t → Takes t new 41 → Goes ReadAtom old new
opened {sign} {old} {s} {t} {new} e h g k =
    let m : Moved old s = h.0 in
    let l : Lex (drop old.at old.text.now) open_mark (drop s.at old.text.now) = as_sign _ _ e h.2 in
    let r : Reaches ReadText old.text.now s.at old.count t.at t.count old.rows t.rows = moved_from m.text refl m.count m.rows g.reaches in
    let a = atom_grouped l r (here_in t.at (g.text ∙ m.text) k.here) in
    record {
      text = k.moved.text ∙ g.text ∙ m.text;
      reaches = record { tree = a.tree; reads = subst (λ (n : ℕ). ReadAtom (drop old.at old.text.now) a.tree (drop n old.text.now)) (sym k.at) a.reads; counted = k.moved.count ∙ a.counted; written = λ front e h. subst (λ (w : List Row). Holds w (front ++ rows a.tree)) (sym k.moved.rows) (a.written front e h) };
    }

pub opened_stays : {sign : Sign} {old s : Reader} → sign ≡ Open → Sees sign old s → Refuses ReadText (drop s.at s.text.now) → Refuses ReadAtom (drop old.at old.text.now)
opened_stays {sign} {old} {s} e h r = atom_refused_open (as_sign _ _ e h.2) (subst (λ (w : List ℕ). Refuses ReadText (drop s.at w)) h.0.text r)

pub not_closed : {sign : Sign} {old s t : Reader} → sign ≡ Open → Sees sign old s → Goes ReadText s t → ((z : List ℕ) → drop t.at t.text.now ≡ 41 ∷ z → ⊥) → Refuses ReadAtom (drop old.at old.text.now)
not_closed {sign} {old} {s} {t} e h g k =
    let m : Moved old s = h.0 in
    let r : Reaches ReadText old.text.now s.at old.count t.at t.count old.rows t.rows = moved_from m.text refl m.count m.rows g.reaches in
    atom_refused_close (as_sign _ _ e h.2) r.reads (λ z f. k z (ap (drop t.at) (g.text ∙ m.text) ∙ f))

-- a sign with which no atom begins
pub not_begun : {i x : List ℕ} {s : Sign} → ((s ≡ Close) ⊎ ((s ≡ Bar) ⊎ (s ≡ Star))) → Signed s i x → Refuses ReadAtom i
not_begun {i} {x} (inl e) h = atom_refused_sign (as_sign i x e h) refl
not_begun {i} {x} (inr (inl e)) h = atom_refused_sign (as_sign i x e h) refl
not_begun {i} {x} (inr (inr e)) h = atom_refused_sign (as_sign i x e h) refl

pub leaf_goes : {sign v : Sign} {old s new : Reader} {lo hi : ℕ} → sign ≡ v → Sees sign old s → Alone (mark v) (leaf lo hi) → length old.rows ≡ 64 → new.text.now ≡ s.text.now → new.at ≡ s.at → new.count ≡ s.count + 1 → new.rows ≡ set s.rows s.count (row 1 lo hi) → Goes ReadAtom old new
leaf_goes {old = old} {s = s} {lo = lo} {hi = hi} e h a long f g n w =
    let m : Moved old s = h.0 in
    record {
      text = f ∙ m.text;
      reaches = leaf_put (as_sign _ _ e h.2) a long g (n ∙ ap (λ (c : ℕ). c + 1) m.count) (w ∙ ap (λ (v : List Row). set v s.count (row 1 lo hi)) m.rows ∙ ap (λ (c : ℕ). set old.rows c (row 1 lo hi)) m.count);
    }
