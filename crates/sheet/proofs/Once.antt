-- A question has one answer, whatever sheet with the same rules is asked.
use Rattle.std.proofs.Common.{◌≡◌, ℕ, ◌<◌, ◌≤◌, Bool, List, length, Some, None, Ok, Option, sym, refl, ap, ◌∙◌, subst, inl, inr, ⊎_elim}
use mathlib.Core.List.{List-discrete}
use mathlib.Core.HLevel.{Discrete, ×_discrete}
use native.Mathlib.Decide.{ℕ_discrete}
use Rattle.std.proofs.lemmas.Option.{none-some, same_Some}
use Rattle.std.proofs.lemmas.Bool.{cases_order}
use Rattle.rules.specs.declared.row.Row.{Row}
use Rattle.rules.specs.Trees.{Tree, rows, size, Of, here}
use Rattle.rules.specs.RuleRows.{Ruled}
use Rattle.rules.specs.Languages.{Sight, seen}
use Rattle.rules.specs.Readings.{Reading, Reads, ReadsWhole}
use Rattle.rules.proofs.OneTree.{one_tree}
use Rattle.policies.specs.Orders.{Order, Decided, Best}
use Rattle.positions.specs.Positions.{follow_sets}
use Rattle.sheet.specs.Changes.{Rules}
use Rattle.sheet.specs.Questions.{at, Read, BestBy, name_met, spans_met, sets_met, summary}
use Rattle.sheet.specs.Histories.{Question, spans, govern, sets}
use Rattle.sheet.specs.Law.{Told, spans_told, govern_told, sets_told, SpansTold, GovernTold, SetsTold, Answered, LeavesAlike, HoldAlike, RankAlike}
use Rattle.sheet.proofs.QuestionFacts.{seen_long}
use Rattle.sheet.proofs.SpansFacts.{all_passed}
use Rattle.sheet.proofs.Sights.{Same, same_from, Pairs, pairs_seen, turned, reads_alike}

optional : {X : Type 0} → Discrete X → Discrete (Option X)
optional d None None = yes refl
optional d None (Some y) = no (λ e. none-some y e)
optional d (Some x) None = no (λ e. none-some x (sym e))
optional d (Some x) (Some y) = elim (d x y) [ yes e ↦ yes (ap Some e) | no f ↦ no (λ e. f (same_Some x y e)) ]

-- whether two readings are the same can be told
readings_told : Discrete Reading
readings_told = List-discrete (optional (×_discrete ℕ_discrete ℕ_discrete))

-- the best readings of names that are seen alike, under orders that agree on them
best_once : (above rival : Order) → Decided above → (t : Tree) → size t ≤ 64 → (w v : List Sight) → Pairs (Same t) w v → ((x y : Reading) → ReadsWhole w t x → ReadsWhole w t y → above (rows t) 0 x y ≡ rival (rows t) 0 x y) → (x y : Reading) → Best above t w x → Best rival t v y → length w ≡ length v → x ≡ y
best_once above rival laws t few w v p rank x y b c long =
    let also : ReadsWhole w t y = subst (λ (n : ℕ). Reads w t 0 n y) (sym long) (reads_alike c.reads (turned t p)) in
    let there : ReadsWhole v t x = subst (λ (n : ℕ). Reads v t 0 n x) long (reads_alike b.reads p) in
    elim (readings_told x y) [
      | yes e ↦ e
      | no f ↦ absurd (laws.not_both t few 0 t here w 0 (length w) x y b.reads also (b.outranks y also (λ e. f (sym e))) (rank y x also b.reads ∙ c.outranks x there f))
    ]

module _ {S : Type 0} (one other : ℕ → ℕ → S → Bool) (rules : Rules) (hold : HoldAlike one other rules) (name : List S) where
  long : length (seen one name) ≡ length (seen other name)
  long = seen_long one name ∙ sym (seen_long other name)

  alike : (k : ℕ) → k < length rules → (t : Tree) → Of (at rules k) t → Pairs (Same t) (seen one name) (seen other name)
  alike k h t e = pairs_seen one other (Same t) (λ s. same_from t (λ lo hi. one lo hi s) (λ lo hi. other lo hi s) (subst (λ (rs : List Row). LeavesAlike rs (λ lo hi. one lo hi s) (λ lo hi. other lo hi s)) e (hold k h s))) name

  read_on : (k : ℕ) → k < length rules → Read (at rules k) (seen one name) → Read (at rules k) (seen other name)
  read_on k h r = (r.0, r.1, (r.2.0, subst (λ (n : ℕ). Reads (seen other name) r.0 0 n r.2.0) long (reads_alike r.2.1 (alike k h r.0 r.1))))

  read_back : (k : ℕ) → k < length rules → Read (at rules k) (seen other name) → Read (at rules k) (seen one name)
  read_back k h r = (r.0, r.1, (r.2.0, subst (λ (n : ℕ). Reads (seen one name) r.0 0 n r.2.0) (sym long) (reads_alike r.2.1 (turned r.0 (alike k h r.0 r.1)))))

  -- a govern
  govern_once : (m : Option ℕ) (a b : Told) → GovernTold m rules (seen one name) a → GovernTold m rules (seen other name) b → a ≡ b
  govern_once (Some n) a b x y = x ∙ sym y
  govern_once None a b (inl x) (inl y) =
      let e : x.0 ≡ y.0 = ⊎_elim (λ e. e) (⊎_elim
      (λ h. absurd (y.1.none_before x.0 h (read_on x.0 x.1.held x.1.reads)))
      (λ h. absurd (x.1.none_before y.0 h (read_back y.0 y.1.held y.1.reads)))) (cases_order x.0 y.0) in
      x.2 ∙ ap (λ (p : ℕ). govern_told (Ok p)) e ∙ sym y.2
  govern_once None a b (inl x) (inr y) = absurd (y.0 x.0 x.1.held (read_on x.0 x.1.held x.1.reads))
  govern_once None a b (inr x) (inl y) = absurd (x.0 y.0 y.1.held (read_back y.0 y.1.held y.1.reads))
  govern_once None a b (inr x) (inr y) = x.1 ∙ sym y.1

  -- a spans, at a place that is held and ruled
  module _ (above rival : Order) (laws : Decided above) (rank : RankAlike one above rival rules) (place : ℕ) where
    best_same : (h : place < length rules) → Ruled (at rules place) → (x y : Reading) → BestBy above (at rules place) (seen one name) x → BestBy rival (at rules place) (seen other name) y → x ≡ y
    best_same h ruled x y b c =
        let same : c.0 ≡ b.0 = one_tree c.0 b.0 (sym c.1 ∙ b.1) in
        let few : size b.0 ≤ 64 = subst (λ (t : Tree). size t ≤ 64) (one_tree ruled.tree b.0 (sym ruled.of ∙ b.1)) ruled.few in
        best_once above rival laws b.0 few (seen one name) (seen other name) (alike place h b.0 b.1)
        (λ u v ru rv. subst (λ (rs : List Row). above rs 0 u v ≡ rival rs 0 u v) b.1 (rank place h b.0 b.1 name u v ru rv))
        x y b.2 (subst (λ (t : Tree). Best rival t (seen other name) y) same c.2) long

    best_read : (o : Order) (w : List Sight) (x : Reading) → BestBy o (at rules place) w x → Read (at rules place) w
    best_read o w x b = (b.0, b.1, (x, b.2.reads))

    spans_once : (m : Option ℕ) (a b : Told) → (m ≡ None → place < length rules) → (m ≡ None → Ruled (at rules place)) → SpansTold m above (at rules place) (seen one name) a → SpansTold m rival (at rules place) (seen other name) b → a ≡ b
    spans_once (Some n) a b h r x y = x ∙ sym y
    spans_once None a b h r (inl x) (inl y) = x.2 ∙ ap (λ (z : Reading). spans_told (Ok z)) (best_same (h refl) (r refl) x.0 y.0 x.1 y.1) ∙ sym y.2
    spans_once None a b h r (inl x) (inr y) = absurd (y.0 (read_on place (h refl) (best_read above (seen one name) x.0 x.1)))
    spans_once None a b h r (inr x) (inl y) = absurd (x.0 (read_back place (h refl) (best_read rival (seen other name) y.0 y.1)))
    spans_once None a b h r (inr x) (inr y) = x.1 ∙ sym y.1

sets_once : (m : Option ℕ) (rs : List Row) (a b : Told) → SetsTold m rs a → SetsTold m rs b → a ≡ b
sets_once (Some n) rs a b x y = x ∙ sym y
sets_once None rs a b x y = x.2 ∙ ap (λ (t : Tree). sets_told (Ok (summary t, follow_sets t 0))) (one_tree x.0 y.0 (sym x.1 ∙ y.1)) ∙ sym y.2

pub answered_once : {S : Type 0} (one other : ℕ → ℕ → S → Bool) (rules : Rules) (above rival : Order) → ((k : ℕ) → k < length rules → Ruled (at rules k)) → Decided above → HoldAlike one other rules → RankAlike one above rival rules → (q : Question S) (a b : Told) → Answered one above rules q a → Answered other rival rules q b → a ≡ b
answered_once one other rules above rival ruled laws hold rank (spans place name bench report) a b x y =
    let held = λ (e : spans_met rules place (length name) bench report ≡ None). (all_passed rules place (length name) bench report e).held in
    spans_once one other rules hold name above rival laws rank place (spans_met rules place (length name) bench report) a b held (λ e. ruled place (held e)) x y
answered_once one other rules above rival ruled laws hold rank (govern name) a b x y = govern_once one other rules hold name (name_met (length name)) a b x y
answered_once one other rules above rival ruled laws hold rank (sets place masks) a b x y = sets_once (sets_met rules place masks) (at rules place) a b x y
