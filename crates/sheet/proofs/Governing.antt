-- The lowest place whose rule reads a name, from the first held rule that does.
use Rattle.std.proofs.Common.{ℕ, ◌<◌, List, [], ◌∷◌, length, map, Option, Some, None, sym, refl, subst, arith}
use Rattle.std.proofs.lemmas.List.{get_or-map, length-map}
use Rattle.std.specs.List.{AllWithin, HoldsAt}
use Rattle.std.specs.Option.{MatchOption, ok_or}
use Rattle.rules.specs.declared.row.Row.{Row}
use Rattle.rules.specs.declared.denial.Denial.TheVariants.{NotRead}
use Rattle.rules.specs.Languages.{Sight}
use Rattle.sheet.specs.declared.held.Held.{Held}
use Rattle.sheet.specs.Questions.{at, Read, Governed}
use Rattle.sheet.specs.Sheets.{held_rows}

module _ (w : List Sight) where
  abbrev pub Reads : Held → Type 0
  Reads h = Read (held_rows h) w

  abbrev pub Unread : Held → Type 0
  Unread h = Read (held_rows h) w → ⊥

  reads_there : (hs : List Held) (k : ℕ) → k < length hs → HoldsAt Reads hs k → Read (at (map held_rows hs) k) w
  reads_there [] k l f = absurd (omega arith)
  reads_there (h ∷ hs) k l f = let P : List Row → Type 0 = λ rs. Read rs w in subst P (sym (get_or-map held_rows (h ∷ hs) k h [] l)) (f h)

  unread_there : (hs : List Held) (k n : ℕ) → k < length hs → k < n → AllWithin Unread hs 0 n → Read (at (map held_rows hs) k) w → ⊥
  unread_there [] k n l u f r = absurd (omega arith)
  unread_there (h ∷ hs) k n l u f r = let P : List Row → Type 0 = λ rs. Read rs w in f k h (omega arith) u (subst P (get_or-map held_rows (h ∷ hs) k h [] l) r)

  pub governed : (hs : List Held) (r : Option ℕ) → MatchOption r (AllWithin Unread hs 0 (length hs)) (λ i. (i < length hs) × HoldsAt Reads hs i × AllWithin Unread hs 0 i) → Governed None (map held_rows hs) w (ok_or r NotRead)
  governed hs None f = (refl, λ k l r. let u : k < length hs = omega (arith, l, length-map hs held_rows) in unread_there hs k (length hs) u u f r)
  governed hs (Some i) f = record {
    held = omega (arith, f.0, length-map hs held_rows);
    reads = reads_there hs i f.0 f.1;
    none_before = λ k l r. unread_there hs k i (omega (arith, f.0, l)) l f.2 r;
  }
