-- What the calls answer, told as the law and the relations say it.
use Rattle.std.proofs.Common.{◌≡◌, ℕ, Bool, List, length, take, drop, Some, None, Ok, Err, Option, Result, sym, refl, ap, ◌∙◌, subst, inl, inr, arith}
use Rattle.std.proofs.lemmas.List.{take_at}
use Rattle.rules.specs.declared.row.Row.{Row}
use Rattle.rules.specs.declared.denial.Denial.{Denial}
use Rattle.rules.specs.Denials.{number}
use Rattle.rules.specs.Trees.{Tree, Of, leaves}
use Rattle.rules.specs.Languages.{Sight, seen}
use Rattle.rules.specs.Readings.{Reading}
use Rattle.rules.proofs.OneTree.{one_tree}
use Rattle.rules.proofs.RowFacts.{length_rows}
use Rattle.rules.proofs.ReadingFacts.{readings_exactly, reads_length}
use Rattle.policies.specs.Orders.{Order}
use Rattle.policies.specs.Theorems.{Relation, Prefers}
use Rattle.positions.specs.Positions.{follow_sets}
use Rattle.positions.proofs.Meanings.{sets_mean}
use Rattle.sheet.specs.declared.summary.Summary.{Summary}
use Rattle.sheet.specs.Changes.{Rules}
use Rattle.sheet.specs.Questions.{at, Read, name_met, spans_met, sets_met, summary, Reported, Spanned, SpansAnswer, Governed, GovernAnswer, SetOut, SetsAnswer}
use Rattle.sheet.specs.Published.{Published}
use Rattle.sheet.specs.Histories.{spans, govern, sets}
use Rattle.sheet.specs.Law.{spans_told, govern_told, sets_told, spans_result, govern_result, sets_result, SpansTold, GovernTold, SetsTold, Answered}
use Rattle.sheet.proofs.QuestionFacts.{seen_long}

-- the first entries of a report are the reading
front : (above : Order) (rs : List Row) (w : List Sight) (report report' : Reading) (r : Reported above rs w report report') → take (length rs) report' ≡ r.reading
front above rs w report report' r =
    let t = r.best.0 in
    let long : length rs ≡ length r.reading = ap length r.best.1 ∙ length_rows t ∙ sym (reads_length r.best.2.reads) in
    ap (take (length rs)) r.written ∙ take_at r.reading (drop (length rs) report) (length rs) (sym long)

spans_tell : (m : Option ℕ) (above : Order) (rs : List Row) (w : List Sight) (bench bench' : List ℕ) (report report' : Reading) (r : Result (Unit {0}) Denial) → Spanned m above rs w bench bench' report report' r → SpansTold m above rs w (spans_result (length rs) r report')
spans_tell (Some n) above rs w bench bench' report report' (Ok done) h = absurd (let e = h.0 in let z : ◌≡◌ {A = ℕ} 0 1 = cc in omega arith)
spans_tell (Some n) above rs w bench bench' report report' (Err d) h = let e : number d ≡ n = (let f = h.0 in cc) in ap (λ (k : ℕ). spans_told (Err k)) e
spans_tell None above rs w bench bench' report report' (Ok done) h = inl (h.reading, h.best, ap (λ (x : Reading). spans_told (Ok x)) (front above rs w report report' h))
spans_tell None above rs w bench bench' report report' (Err d) h = inr (h.1, ap (λ (k : ℕ). spans_told (Err k)) h.0)

pub spans_tells : {S : Type 0} (holds : ℕ → ℕ → S → Bool) (above : Order) (rules : Rules) (place : ℕ) (name : List S) (bench bench' : List ℕ) (report report' : Reading) (r : Result (Unit {0}) Denial) → SpansAnswer above (seen holds name) rules place bench bench' report report' r → Answered holds above rules (spans place name (length bench) (length report)) (spans_result (length (at rules place)) r report')
spans_tells holds above rules place name bench bench' report report' r h =
    subst (λ (n : ℕ). SpansTold (spans_met rules place n (length bench) (length report)) above (at rules place) (seen holds name) (spans_result (length (at rules place)) r report')) (seen_long holds name)
    (spans_tell (spans_met rules place (length (seen holds name)) (length bench) (length report)) above (at rules place) (seen holds name) bench bench' report report' r h)

govern_tell : (m : Option ℕ) (rules : Rules) (w : List Sight) (r : Result ℕ Denial) → Governed m rules w r → GovernTold m rules w (govern_result r)
govern_tell (Some n) rules w r h = ap govern_told h
govern_tell None rules w (Ok p) h = inl (p, h, refl)
govern_tell None rules w (Err d) h = inr (h.1, ap (λ (k : ℕ). govern_told (Err k)) h.0)

pub govern_tells : {S : Type 0} (holds : ℕ → ℕ → S → Bool) (above : Order) (rules : Rules) (name : List S) (r : Result ℕ Denial) → GovernAnswer rules (seen holds name) r → Answered holds above rules (govern name) (govern_result r)
govern_tells holds above rules name r h =
    subst (λ (n : ℕ). GovernTold (name_met n) rules (seen holds name) (govern_result r)) (seen_long holds name) (govern_tell (name_met (length (seen holds name))) rules (seen holds name) r h)

sets_tell : (m : Option ℕ) (rs : List Row) (masks masks' : List ℕ) (r : Result Summary Denial) → SetOut m rs masks masks' r → SetsTold m rs (sets_result r masks')
sets_tell (Some n) rs masks masks' (Ok s) h = absurd (let e = h.0 in let z : ◌≡◌ {A = ℕ} 0 1 = cc in omega arith)
sets_tell (Some n) rs masks masks' (Err d) h = let e : number d ≡ n = (let f = h.0 in cc) in ap (λ (k : ℕ). sets_told (Err k)) e
sets_tell None rs masks masks' r h =
    let t = h.0 in
    let f : take (leaves t) masks' ≡ follow_sets t 0 = ap (take (leaves t)) h.3 ∙ take_at (follow_sets t 0) (drop (leaves t) masks) (leaves t) (sets_mean t).one_each in
    (t, h.1, ap (λ (x : Result Summary Denial). sets_result x masks') h.2 ∙ ap (λ (l : List ℕ). sets_told (Ok (summary t, l))) f)

pub sets_tells : {S : Type 0} (holds : ℕ → ℕ → S → Bool) (above : Order) (rules : Rules) (place : ℕ) (masks masks' : List ℕ) (r : Result Summary Denial) → SetsAnswer rules place masks masks' r → Answered holds above rules (sets place (length masks)) (sets_result r masks')
sets_tells holds above rules place masks masks' r h = sets_tell (sets_met rules place (length masks)) (at rules place) masks masks' r h

-- the relation that goes with the order derives what is reported
module _ (above : Order) (derives : Relation) (prefers : Prefers above derives) (rs : List Row) (w : List Sight) (bench bench' : List ℕ) (report report' : Reading) where
  derived_read : (x : Reading) → ((t : Tree) × Of rs t × derives w t 0 (length w) x) → Read rs w
  derived_read x d = (d.0, d.1, (x, ((prefers.best d.0 w x).0 d.2).reads))

  publish : (r : Result (Unit {0}) Denial) → Spanned None above rs w bench bench' report report' r → Published derives rs w report' r
  publish (Ok done) h =
      let t = h.best.0 in
      let mine = (prefers.best t w h.reading).1 h.best.2 in
      record {
        exactly = λ x. (
          (λ e. (t, h.best.1, subst (λ (y : Reading). derives w t 0 (length w) y) (sym (front above rs w report report' h) ∙ e.1) mine)),
          (λ d.
              let same : d.0 ≡ t = one_tree d.0 t (sym d.1 ∙ h.best.1) in
              let also : derives w t 0 (length w) x = subst (λ (u : Tree). derives w u 0 (length w) x) same d.2 in
              (refl, front above rs w report report' h ∙ prefers.unique t w 0 (length w) h.reading x mine also)),
        );
        denied = (
          (λ e. absurd (let z : ◌≡◌ {A = ℕ} 0 1 = cc in omega arith)),
          (λ n. absurd (n t h.best.1 ((readings_exactly t w).1 (h.reading, h.best.2.reads)))),
        );
      }
  publish (Err d) h = record {
    exactly = λ x. (
      (λ e. absurd (let f = e.0 in let z : ◌≡◌ {A = ℕ} 0 1 = cc in omega arith)),
      (λ y. absurd (h.1 (derived_read x y))),
    );
    denied = (
      (λ e t of i. h.1 (t, of, (readings_exactly t w).0 i)),
      (λ n. ap Err h.0),
    );
  }

published : (above : Order) (derives : Relation) → Prefers above derives → (w : List Sight) (rules : Rules) (place : ℕ) (bench bench' : List ℕ) (report report' : Reading) (r : Result (Unit {0}) Denial) → SpansAnswer above w rules place bench bench' report report' r → spans_met rules place (length w) (length bench) (length report) ≡ None → Published derives (at rules place) w report' r
published above derives prefers w rules place bench bench' report report' r h e =
    publish above derives prefers (at rules place) w bench bench' report report' r (subst (λ (o : Option ℕ). Spanned o above (at rules place) w bench bench' report report' r) e h)

pub published_by : (above known : Order) (derives : Relation) → Prefers known derives → above ≡ known → (w : List Sight) (rules : Rules) (place : ℕ) (bench bench' : List ℕ) (report report' : Reading) (r : Result (Unit {0}) Denial) → SpansAnswer above w rules place bench bench' report report' r → spans_met rules place (length w) (length bench) (length report) ≡ None → Published derives (at rules place) w report' r
published_by above known derives prefers e w rules place bench bench' report report' r h m =
    published known derives prefers w rules place bench bench' report report' r (subst (λ (o : Order). SpansAnswer o w rules place bench bench' report report' r) e h) m
