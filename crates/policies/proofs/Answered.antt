-- What the answer of a comparison by keys says of two readings at a node.
use Rattle.std.proofs.Common.{◌≡◌, ℕ, List, length, drop, Ordering, Less, Equal, Greater, sym, refl, ap, ◌∙◌, subst}
use Rattle.rules.specs.declared.row.Row.{Row}
use Rattle.rules.specs.Trees.{Tree, rows, Bound}
use Rattle.rules.specs.Languages.{Sight}
use Rattle.rules.specs.Readings.{Reading, Reads}
use Rattle.rules.proofs.ReadingFacts.{reads_length, reads_rows}
use Rattle.policies.specs.Orders.{Answers, Ranks}
use Rattle.policies.specs.Keys.{Key, Faithful, keys, above_by, KeysCompare}
use Rattle.policies.specs.Lex.{lex_not_both, lex_one_not_above}
use Rattle.policies.specs.KeyFacts.{tells}
use Rattle.policies.specs.KeyOrder.{keys_at}

-- readings x and y of one stretch, at node n of t
module _ {key : Key} (f : Faithful key) (t : Tree) (n : ℕ) (s : Tree) (b : Bound t n s) (w : List Sight) (i j : ℕ) (x y : Reading) (rx : Reads w s i j x) (ry : Reads w s i j y) where
  abbrev of : Reading → List ℕ
  of r = keys key (drop n (rows t)) r

  answers : (o : Ordering) → KeysCompare (of x) (of y) o → Answers (above_by key) (rows t) n x y o
  answers Less h = record {
    greater = (λ e. cc, λ a. absurd (lex_not_both (of x) (of y) a h));
    less = (λ e. h, λ a. refl);
    equal = (λ e. cc, λ e. absurd (lex_one_not_above (of y) (of x) (ap of (sym e)) h));
  }
  answers Greater h = record {
    greater = (λ e. h, λ a. refl);
    less = (λ e. cc, λ a. absurd (lex_not_both (of x) (of y) h a));
    equal = (λ e. cc, λ e. absurd (lex_one_not_above (of x) (of y) (ap of e) h));
  }
  answers Equal h = record {
    greater = (λ e. cc, λ a. absurd (lex_one_not_above (of x) (of y) h a));
    less = (λ e. cc, λ a. absurd (lex_one_not_above (of y) (of x) (sym h) a));
    equal = (λ e. (tells f s w i j j x y rx ry (sym (keys_at key b x (reads_rows rx)) ∙ h ∙ keys_at key b y (reads_rows ry))).1, λ e. refl);
  }

-- where the keys of the rows from the node on were compared, in whichever way
pub ranks : {key : Key} → Faithful key → (rs : List Row) (n : ℕ) (x y : Reading) (o : Ordering)
    → (length x ≡ length y → KeysCompare (keys key (drop n rs) x) (keys key (drop n rs) y) o) → Ranks (above_by key) rs n x y o
ranks {key} f rs n x y o h t s e few b w i j rx ry =
    let P : List Row → Type 0 = λ z. KeysCompare (keys key z x) (keys key z y) o in
    let c : P (drop n (rows t)) = subst P (ap (drop n) e) (h (reads_length rx ∙ sym (reads_length ry))) in
    subst (λ (z : List Row). Answers (above_by key) z n x y o) (sym e) (answers f t n s b w i j x y rx ry o c)
