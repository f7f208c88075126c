-- Adds and drops, by the rules held.
use Rattle.std.proofs.Common.{◌≡◌, ℕ, ◌+◌, ◌<◌, ◌≤◌, List, [], ◌∷◌, ◌++◌, map, length, take, drop, Some, None, Option, sym, ap, ◌∙◌}
use Rattle.std.proofs.lemmas.List.{map-append, take-map, drop-map, length-map}
use Rattle.std.proofs.lemmas.Bool.{lt-ltb, le-ltb, cond-true, cond-false}
use Rattle.rules.specs.declared.row.Row.{Row}
use Rattle.sheet.specs.declared.held.Held.{Held}
use Rattle.sheet.specs.Changes.{Rules, unless, changed, place_met, drop_answer, dropped}
use Rattle.sheet.specs.Sheets.{held_rows}

-- as many rules as are kept
pub many_held : (hs : List Held) (n : ℕ) → n ≡ length hs → length (map held_rows hs) ≡ n
many_held hs n e = length-map hs held_rows ∙ sym e

-- one rule more
pub one_more : (hs : List Held) (h : Held) (new : List Held) (rs : List Row) → new ≡ hs ++ h ∷ [] → held_rows h ≡ rs → map held_rows new ≡ map held_rows hs ++ rs ∷ []
one_more hs h new rs e f = ap (map held_rows) e ∙ map-append held_rows hs (h ∷ []) ∙ ap (λ (r : List Row). map held_rows hs ++ r ∷ []) f

-- what a drop answers and leaves
module _ (rules : Rules) (place : ℕ) where
  pub not_held : length rules ≤ place → place_met rules place ≡ Some 7
  not_held h = cond-false _ _ _ (le-ltb place (length rules) h)

  pub is_held : place < length rules → place_met rules place ≡ None
  is_held h = cond-true _ _ _ (lt-ltb place (length rules) h)

  pub drop_answer_by : (m : Option ℕ) → place_met rules place ≡ m → unless m tt ≡ drop_answer rules place
  drop_answer_by m e = ap (λ (o : Option ℕ). unless o tt) (sym e)

  pub dropped_by : (m : Option ℕ) → place_met rules place ≡ m → (new : Rules) → new ≡ changed m (take place rules ++ drop (place + 1) rules) rules → new ≡ dropped rules place
  dropped_by m e new f = f ∙ ap (λ (o : Option ℕ). changed o (take place rules ++ drop (place + 1) rules) rules) (sym e)

pub one_less : (hs new : List Held) (place : ℕ) → new ≡ take place hs ++ drop (place + 1) hs → map held_rows new ≡ take place (map held_rows hs) ++ drop (place + 1) (map held_rows hs)
one_less hs new place e =
    ap (map held_rows) e
    ∙ map-append held_rows (take place hs) (drop (place + 1) hs)
    ∙ ap (λ (l : Rules). l ++ map held_rows (drop (place + 1) hs)) (sym (take-map held_rows place hs))
    ∙ ap (λ (l : Rules). take place (map held_rows hs) ++ l) (sym (drop-map held_rows (place + 1) hs))
