-- Keys of readings: how they are put together, and that they tell readings apart.
use Rattle.std.specs.Prelude.{◌≡◌, ℕ, suc, ◌-◌, ◌<◌, ◌≤◌, Bool, true, false, cond, List, [], ◌∷◌, ◌++◌, length, None, Option, ◌==◌, ◌≢◌, refl}
use Rattle.std.proofs.Common.{sym, ◌∙◌, ap, ap₂, subst, inl, inr, arith}
use Rattle.rules.specs.declared.row.Row.{Row}
use Rattle.rules.specs.Trees.{Tree, empty, leaf, choice, sequence, star, row, rows}
use Rattle.rules.specs.Languages.{Sight}
use Rattle.rules.specs.Readings.{Reading, Reads, stretch, nothing}
use Rattle.policies.specs.Keys.{Key, Faithful, extent, keys, lex_above, posix_key, first_key}
use Rattle.policies.specs.Lex.{lex_greater, lex_one_not_above, lex_after, lex_extend, lex_prefix}
use Rattle.rules.proofs.ReadingFacts.{ReadsCases, reads_cases, reads_head, reads_rows, nothing_rows, nothing_head}
use Rattle.rules.proofs.RowFacts.{first_row}

pub posix_faithful : Faithful posix_key
posix_faithful = record { at_none = λ kind. refl; at_some = λ kind len. omega arith; at_star = λ len. refl }

pub first_faithful : Faithful first_key
first_faithful = record { at_none = λ kind. refl; at_some = λ kind len. some (kind == 4) len; at_star = λ len. refl }
  where
    some : (b : Bool) (len : ℕ) → 0 < cond b (suc len) 1
    some true len = omega arith
    some false len = omega arith

-- lists put together, taken apart
append_apart : {A : Type 0} (a b c d : List A) → length a ≡ length c → a ++ b ≡ c ++ d → (a ≡ c) × (b ≡ d)
append_apart [] b [] d l e = (refl, e)
append_apart [] b (y ∷ c) d l e = absurd (omega arith)
append_apart (x ∷ a) b [] d l e = absurd (omega arith)
append_apart (x ∷ a) b (y ∷ c) d l e =
    let f : x ≡ y = cc in
    let g : a ++ b ≡ c ++ d = cc in
    let h = append_apart a b c d (omega arith) g in
    let k : a ≡ c = h.0 in
    (cc, h.1)

keys_append : (key : Key) (a b : List Row) (x y : Reading) → length a ≡ length x → keys key (a ++ b) (x ++ y) ≡ keys key a x ++ keys key b y
keys_append key [] b [] y l = refl
keys_append key [] b (e ∷ x) y l = absurd (omega arith)
keys_append key (r ∷ a) b [] y l = absurd (omega arith)
keys_append key (r ∷ a) b (e ∷ x) y l = ap {B = List ℕ} (λ z. key r.kind (extent e) ∷ z) (keys_append key a b x y (omega arith))

-- rows past the reading do not count
pub keys_rest : (key : Key) (a b : List Row) (x : Reading) → length a ≡ length x → keys key (a ++ b) x ≡ keys key a x
keys_rest key [] [] [] l = refl
keys_rest key [] (r ∷ b) [] l = refl
keys_rest key [] [] (e ∷ x) l = absurd (omega arith)
keys_rest key [] (r ∷ b) (e ∷ x) l = absurd (omega arith)
keys_rest key (r ∷ a) b [] l = refl
keys_rest key (r ∷ a) b (e ∷ x) l = ap {B = List ℕ} (λ z. key r.kind (extent e) ∷ z) (keys_rest key a b x (omega arith))

length_keys : (key : Key) (a : List Row) (x : Reading) → length a ≡ length x → length (keys key a x) ≡ length a
length_keys key [] x l = refl
length_keys key (r ∷ a) [] l = absurd (omega arith)
length_keys key (r ∷ a) (e ∷ x) l = ap suc (length_keys key a x (omega arith))

pub keys_first : (key : Key) (t : Tree) (e : Option (ℕ × ℕ)) (x : Reading) → keys key (rows t) (e ∷ x) ≡ key (first_row t).0.kind (extent e) ∷ keys key (first_row t).1 x
keys_first key t e x = ap (λ (z : List Row). keys key z (e ∷ x)) (first_row t).2

-- the keys of a node over p and then m
keys_two : (key : Key) (k : ℕ) (p : Tree) (m : List Row) (e : Option (ℕ × ℕ)) (x y : Reading) → length (rows p) ≡ length x
    → keys key (row k 0 0 ∷ (rows p ++ m)) (e ∷ (x ++ y)) ≡ key k (extent e) ∷ (keys key (rows p) x ++ keys key m y)
keys_two key k p m e x y l = ap {B = List ℕ} (λ z. key k (extent e) ∷ z) (keys_append key (rows p) m x y l)

-- taking part is above taking no part
part_above : {key : Key} → Faithful key → {w : List Sight} {p : Tree} {i j : ℕ} {r : Reading} → Reads w p i j r → (a b : List ℕ)
    → lex_above (keys key (rows p) r ++ a) (keys key (rows p) (nothing p) ++ b) ≡ true
part_above {key} f {w} {p} {i} {j} {r} h a b =
    let c = reads_head h in
    let n = nothing_head p in
    let u : keys key (rows p) r ≡ key (first_row p).0.kind (extent (stretch i j)) ∷ keys key (first_row p).1 c.0 = ap (λ (z : Reading). keys key (rows p) z) c.1 ∙ keys_first key p (stretch i j) c.0 in
    let v : keys key (rows p) (nothing p) ≡ key (first_row p).0.kind None ∷ keys key (first_row p).1 n.0 = ap (λ (z : Reading). keys key (rows p) z) n.1 ∙ keys_first key p None n.0 in
    let lt : key (first_row p).0.kind None < key (first_row p).0.kind (extent (stretch i j)) = omega (arith, f.at_none (first_row p).0.kind, f.at_some (first_row p).0.kind (j - i)) in
    rw (u, v) (lex_greater (key (first_row p).0.kind (extent (stretch i j))) (keys key (first_row p).1 c.0 ++ a) (key (first_row p).0.kind None) (keys key (first_row p).1 n.0 ++ b) lt)

part_differs : {key : Key} → Faithful key → {w : List Sight} {p : Tree} {i j : ℕ} {r : Reading} → Reads w p i j r → (a b : List ℕ)
    → keys key (rows p) r ++ a ≢ keys key (rows p) (nothing p) ++ b
part_differs {key} f {p = p} {r = r} h a b e = lex_one_not_above (keys key (rows p) r ++ a) (keys key (rows p) (nothing p) ++ b) e (part_above f h a b)

head_same : {A : Type 0} {x y : A} {a b : List A} → x ∷ a ≡ y ∷ b → x ≡ y
head_same e = cc

tail_same : {A : Type 0} {x y : A} {a b : List A} → x ∷ a ≡ y ∷ b → a ≡ b
tail_same e = cc

-- the same keys, of readings written otherwise
same_keys : (key : Key) (rs : List Row) {x y u v : Reading} → x ≡ u → y ≡ v → keys key rs x ≡ keys key rs y → keys key rs u ≡ keys key rs v
same_keys key rs f g e = sym (ap (keys key rs) f) ∙ e ∙ ap (keys key rs) g

-- Readings with one start and the same keys are the same
abbrev Tells : Key → Tree → Type 0
Tells key t = (w : List Sight) (i j k : ℕ) (x y : Reading) → Reads w t i j x → Reads w t i k y → keys key (rows t) x ≡ keys key (rows t) y → (j ≡ k) × (x ≡ y)

-- the keys of two parts, taken apart
keys_apart : (key : Key) (n : ℕ) (p q : Tree) (e f : Option (ℕ × ℕ)) (x y u v : Reading) → length (rows p) ≡ length x → length (rows p) ≡ length u
    → keys key (row n 0 0 ∷ (rows p ++ rows q)) (e ∷ (x ++ y)) ≡ keys key (row n 0 0 ∷ (rows p ++ rows q)) (f ∷ (u ++ v))
    → (keys key (rows p) x ≡ keys key (rows p) u) × (keys key (rows q) y ≡ keys key (rows q) v)
keys_apart key n p q e f x y u v l m h =
    append_apart (keys key (rows p) x) (keys key (rows q) y) (keys key (rows p) u) (keys key (rows q) v)
    (length_keys key (rows p) x l ∙ sym (length_keys key (rows p) u m))
    (tail_same (sym (keys_two key n p (rows q) e x y l) ∙ h ∙ keys_two key n p (rows q) f u v m))

tells_choice : {key : Key} → Faithful key → (p q : Tree) → Tells key p → Tells key q → (w : List Sight) (i j k : ℕ) (x y : Reading)
    → ReadsCases w (choice p q) i j x → ReadsCases w (choice p q) i k y → keys key (rows (choice p q)) x ≡ keys key (rows (choice p q)) y → (j ≡ k) × (x ≡ y)
tells_choice {key} f p q hp hq w i j k x y (inl a) (inl b) e =
    let e1 = same_keys key (rows (choice p q)) a.2 b.2 e in
    let c = keys_apart key 2 p q (stretch i j) (stretch i k) a.0 (nothing q) b.0 (nothing q) (reads_rows a.1) (reads_rows b.1) e1 in
    let d = hp w i j k a.0 b.0 a.1 b.1 c.0 in
    (d.0, a.2 ∙ ap₂ (λ (m : ℕ) (z : Reading). stretch i m ∷ (z ++ nothing q)) d.0 d.1 ∙ sym b.2)
tells_choice {key} f p q hp hq w i j k x y (inr a) (inr b) e =
    let e1 = same_keys key (rows (choice p q)) a.2 b.2 e in
    let l = nothing_rows p in
    let c = keys_apart key 2 p q (stretch i j) (stretch i k) (nothing p) a.0 (nothing p) b.0 l l e1 in
    let d = hq w i j k a.0 b.0 a.1 b.1 c.1 in
    (d.0, a.2 ∙ ap₂ (λ (m : ℕ) (z : Reading). stretch i m ∷ (nothing p ++ z)) d.0 d.1 ∙ sym b.2)
tells_choice {key} f p q hp hq w i j k x y (inl a) (inr b) e =
    let e1 = same_keys key (rows (choice p q)) a.2 b.2 e in
    let l = nothing_rows p in
    let t = tail_same (sym (keys_two key 2 p (rows q) (stretch i j) a.0 (nothing q) (reads_rows a.1)) ∙ e1 ∙ keys_two key 2 p (rows q) (stretch i k) (nothing p) b.0 l) in
    absurd (part_differs f a.1 (keys key (rows q) (nothing q)) (keys key (rows q) b.0) t)
tells_choice {key} f p q hp hq w i j k x y (inr a) (inl b) e =
    let e1 = same_keys key (rows (choice p q)) a.2 b.2 e in
    let l = nothing_rows p in
    let t = tail_same (sym (keys_two key 2 p (rows q) (stretch i j) (nothing p) a.0 l) ∙ e1 ∙ keys_two key 2 p (rows q) (stretch i k) b.0 (nothing q) (reads_rows b.1)) in
    absurd (part_differs f b.1 (keys key (rows q) (nothing q)) (keys key (rows q) a.0) (sym t))

tells_sequence : (key : Key) → (p q : Tree) → Tells key p → Tells key q → (w : List Sight) (i j k : ℕ) (x y : Reading)
    → ReadsCases w (sequence p q) i j x → ReadsCases w (sequence p q) i k y → keys key (rows (sequence p q)) x ≡ keys key (rows (sequence p q)) y → (j ≡ k) × (x ≡ y)
tells_sequence key p q hp hq w i j k x y a b e =
    let e1 = same_keys key (rows (sequence p q)) a.5 b.5 e in
    let c = keys_apart key 3 p q (stretch i j) (stretch i k) a.1 a.2 b.1 b.2 (reads_rows a.3) (reads_rows b.3) e1 in
    let d = hp w i a.0 b.0 a.1 b.1 a.3 b.3 c.0 in
    let g = hq w b.0 j k a.2 b.2 (subst (λ (z : ℕ). Reads w q z j a.2) d.0 a.4) b.4 c.1 in
    let u : a.1 ++ a.2 ≡ b.1 ++ b.2 = ap₂ (λ (m z : Reading). m ++ z) d.1 g.1 in
    (g.0, a.5 ∙ ap₂ (λ (m : ℕ) (z : Reading). stretch i m ∷ z) g.0 u ∙ sym b.5)

tells_star : {key : Key} → Faithful key → (p : Tree) → (w : List Sight) (i j k : ℕ) (x y : Reading)
    → ReadsCases w (star p) i j x → ReadsCases w (star p) i k y → keys key (rows (star p)) x ≡ keys key (rows (star p)) y → (j ≡ k) × (x ≡ y)
tells_star {key} f p w i j k x y a b e =
    let e1 : key 4 (extent (stretch i j)) ∷ keys key (rows p) (nothing p) ≡ key 4 (extent (stretch i k)) ∷ keys key (rows p) (nothing p)
    = same_keys key (rows (star p)) a.3 b.3 e in
    let e2 : key 4 (extent (stretch i j)) ≡ key 4 (extent (stretch i k)) = head_same e1 in
    let h1 : i ≤ j = a.0 in
    let h2 : i ≤ k = b.0 in
    let e3 : suc (j - i) ≡ suc (k - i) = sym (f.at_star (j - i)) ∙ e2 ∙ f.at_star (k - i) in
    let d : j ≡ k = omega arith in
    (d, a.3 ∙ ap {B = Reading} (λ (m : ℕ). stretch i m ∷ nothing p) d ∙ sym b.3)

tells_empty : (w : List Sight) (i j k : ℕ) (x y : Reading) → ReadsCases w empty i j x → ReadsCases w empty i k y → (j ≡ k) × (x ≡ y)
tells_empty w i j k x y a b = let d : j ≡ k = a.0 ∙ sym b.0 in (d, a.1 ∙ ap {B = Reading} (λ (m : ℕ). stretch i m ∷ []) d ∙ sym b.1)

tells_leaf : (lo hi : ℕ) (w : List Sight) (i j k : ℕ) (x y : Reading) → ReadsCases w (leaf lo hi) i j x → ReadsCases w (leaf lo hi) i k y → (j ≡ k) × (x ≡ y)
tells_leaf lo hi w i j k x y a b = let d : j ≡ k = a.0 ∙ sym b.0 in (d, a.1 ∙ ap {B = Reading} (λ (m : ℕ). stretch i m ∷ []) d ∙ sym b.1)

pub tells : {key : Key} → Faithful key → (t : Tree) → Tells key t
tells f empty w i j k x y a b e = tells_empty w i j k x y (reads_cases a) (reads_cases b)
tells f (leaf lo hi) w i j k x y a b e = tells_leaf lo hi w i j k x y (reads_cases a) (reads_cases b)
tells f (choice p q) w i j k x y a b e = tells_choice f p q (tells f p) (tells f q) w i j k x y (reads_cases a) (reads_cases b) e
tells {key} f (sequence p q) w i j k x y a b e = tells_sequence key p q (tells f p) (tells f q) w i j k x y (reads_cases a) (reads_cases b) e
tells f (star p) w i j k x y a b e = tells_star f p w i j k x y (reads_cases a) (reads_cases b) e

-- a whole with a better first part, whatever follows
pub whole_first : (key : Key) (k : ℕ) (p : Tree) (m : List Row) (e f : Option (ℕ × ℕ)) (x y u v : Reading) → key k (extent e) ≡ key k (extent f) → length (rows p) ≡ length x → length (rows p) ≡ length u
    → lex_above (keys key (rows p) x) (keys key (rows p) u) ≡ true
    → lex_above (keys key (row k 0 0 ∷ (rows p ++ m)) (e ∷ (x ++ y))) (keys key (row k 0 0 ∷ (rows p ++ m)) (f ∷ (u ++ v))) ≡ true
whole_first key k p m e f x y u v d lx lu h =
    ap₂ lex_above (keys_two key k p m e x y lx) (keys_two key k p m f u v lu) ∙
    lex_after (key k (extent e)) (keys key (rows p) x ++ keys key m y) (key k (extent f)) (keys key (rows p) u ++ keys key m v) d
    (lex_extend (keys key (rows p) x) (keys key (rows p) u) (keys key m y) (keys key m v) (length_keys key (rows p) x lx ∙ sym (length_keys key (rows p) u lu)) h)

-- a whole with the same first part and a better second part
pub whole_second : (key : Key) (k : ℕ) (p : Tree) (m : List Row) (e f : Option (ℕ × ℕ)) (x y v : Reading) → key k (extent e) ≡ key k (extent f) → length (rows p) ≡ length x
    → lex_above (keys key m y) (keys key m v) ≡ true
    → lex_above (keys key (row k 0 0 ∷ (rows p ++ m)) (e ∷ (x ++ y))) (keys key (row k 0 0 ∷ (rows p ++ m)) (f ∷ (x ++ v))) ≡ true
whole_second key k p m e f x y v d l h =
    ap₂ lex_above (keys_two key k p m e x y l) (keys_two key k p m f x v l) ∙
    lex_after (key k (extent e)) (keys key (rows p) x ++ keys key m y) (key k (extent f)) (keys key (rows p) x ++ keys key m v) d
    (lex_prefix (keys key (rows p) x) (keys key m y) (keys key m v) ∙ h)

-- a choice's first part is above its second
pub first_above_second : {key : Key} → Faithful key → {w : List Sight} {p : Tree} {i j : ℕ} {x : Reading} → Reads w p i j x → (q : Tree) (e f : Option (ℕ × ℕ)) (u y : Reading) → key 2 (extent e) ≡ key 2 (extent f)
    → lex_above (keys key (rows (choice p q)) (e ∷ (x ++ u))) (keys key (rows (choice p q)) (f ∷ (nothing p ++ y))) ≡ true
first_above_second {key} faithful {p = p} {x = x} a q e f u y d =
    ap₂ lex_above (keys_two key 2 p (rows q) e x u (reads_rows a)) (keys_two key 2 p (rows q) f (nothing p) y (nothing_rows p)) ∙
    lex_after (key 2 (extent e)) (keys key (rows p) x ++ keys key (rows q) u) (key 2 (extent f)) (keys key (rows p) (nothing p) ++ keys key (rows q) y) d
    (part_above faithful a (keys key (rows q) u) (keys key (rows q) y))
