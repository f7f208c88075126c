-- The law over histories follows from what the questions' answers are, by the rules held.
use Rattle.std.proofs.Common.{◌≡◌, ℕ, ◌<◌, ◌≤◌, Bool, ◌⊎◌, ◌↔◌, List, [], length, Ok, Err, Option, sym, ap, ◌∙◌, subst, inl, inr, ⊎_elim, arith}
use Rattle.std.proofs.lemmas.Bool.{cases_order}
use Rattle.rules.specs.declared.row.Row.{Row}
use Rattle.rules.specs.Languages.{Sight, seen}
use Rattle.rules.specs.Readings.{Reading}
use Rattle.policies.specs.Orders.{Order, Decided}
use Rattle.sheet.specs.Changes.{Rules}
use Rattle.sheet.specs.Questions.{at, Read, BestBy, Lowest}
use Rattle.sheet.specs.Histories.{Question, spans, govern, Call, held_from, held_after}
use Rattle.sheet.specs.Law.{Told, spans_told, govern_told, SpansTold, GovernTold, Answered, Fitting, Law}
use Rattle.sheet.proofs.AllRuled.{held_ruled_at}
use Rattle.sheet.proofs.Once.{answered_once}
use Rattle.sheet.proofs.SpansFacts.{fit_met, name_fits}

-- what a spans that meets no check is told
abbrev ReadOrNot : Order → List Row → List Sight → Told → Type 0
ReadOrNot above rs w a = ((x : Reading) × BestBy above rs w x × (a ≡ spans_told (Ok x))) ⊎ ((Read rs w → ⊥) × (a ≡ spans_told (Err 11)))

denied_is : (above : Order) (rs : List Row) (w : List Sight) (a : Told) → ReadOrNot above rs w a → (a ≡ spans_told (Err 11)) ↔ (Read rs w → ⊥)
denied_is above rs w a (inl x) = (
  (λ e. absurd (let f = sym x.2 ∙ e in let z : ◌≡◌ {A = ℕ} 0 1 = cc in omega arith)),
  (λ n. absurd (n (x.1.0, x.1.1, (x.0, x.1.2.reads)))),
)
denied_is above rs w a (inr y) = ((λ e. y.0), (λ n. y.1))

-- what a govern that meets no check is told
abbrev PlacedOrNot : Rules → List Sight → Told → Type 0
PlacedOrNot rules w a = ((p : ℕ) × Lowest rules w p × (a ≡ govern_told (Ok p))) ⊎ (((k : ℕ) → k < length rules → Read (at rules k) w → ⊥) × (a ≡ govern_told (Err 11)))

one_lowest : (rules : Rules) (w : List Sight) (p q : ℕ) → Lowest rules w p → Lowest rules w q → p ≡ q
one_lowest rules w p q x y = ⊎_elim (λ e. e) (⊎_elim (λ h. absurd (y.none_before p h x.reads)) (λ h. absurd (x.none_before q h y.reads))) (cases_order p q)

same_place : (p q : ℕ) → govern_told (Ok p) ≡ govern_told (Ok q) → p ≡ q
same_place p q e = cc

lowest_is : (rules : Rules) (w : List Sight) (a : Told) → PlacedOrNot rules w a → (p : ℕ) → (a ≡ govern_told (Ok p)) ↔ Lowest rules w p
lowest_is rules w a (inl x) p = (
  (λ e. subst (λ (q : ℕ). Lowest rules w q) (same_place x.0 p (sym x.2 ∙ e)) x.1),
  (λ l. x.2 ∙ ap (λ (q : ℕ). govern_told (Ok q)) (one_lowest rules w x.0 p x.1 l)),
)
lowest_is rules w a (inr y) p = (
  (λ e. absurd (let f = sym y.1 ∙ e in let z : ◌≡◌ {A = ℕ} 0 1 = cc in omega arith)),
  (λ l. absurd (y.0 p l.held l.reads)),
)

none_is : (rules : Rules) (w : List Sight) (a : Told) → PlacedOrNot rules w a → (a ≡ govern_told (Err 11)) ↔ ((k : ℕ) → k < length rules → Read (at rules k) w → ⊥)
none_is rules w a (inl x) = (
  (λ e. absurd (let f = sym x.2 ∙ e in let z : ◌≡◌ {A = ℕ} 0 1 = cc in omega arith)),
  (λ n. absurd (n x.0 x.1.held x.1.reads)),
)
none_is rules w a (inr y) = ((λ e. y.0), (λ n. y.1))

module _ {S : Type 0} (admitted : ℕ → ℕ → Bool) (holds : ℕ → ℕ → S → Bool) (above : Order) (calls : List (Call S)) (q : Question S) (a : Told) (answered : Answered holds above (held_after admitted calls) q a) where
  spans_at : (place : ℕ) (name : List S) (bench report : ℕ) → q ≡ spans place name bench report → Fitting admitted holds above calls place name bench report → ReadOrNot above (at (held_after admitted calls) place) (seen holds name) a
  spans_at place name bench report e f =
      let x : Answered holds above (held_after admitted calls) (spans place name bench report) a = subst (λ (r : Question S). Answered holds above (held_after admitted calls) r a) e answered in
      subst (λ (o : Option ℕ). SpansTold o above (at (held_after admitted calls) place) (seen holds name) a) (fit_met (held_after admitted calls) place (length name) bench report f.held f.short f.cells f.entries) x

  govern_at : (name : List S) → q ≡ govern name → length name ≤ 120 → PlacedOrNot (held_after admitted calls) (seen holds name) a
  govern_at name e f =
      let x : Answered holds above (held_after admitted calls) (govern name) a = subst (λ (r : Question S). Answered holds above (held_after admitted calls) r a) e answered in
      subst (λ (o : Option ℕ). GovernTold o (held_after admitted calls) (seen holds name) a) (name_fits (length name) f) x

  pub lawful : Decided above → Law admitted holds above calls q a
  lawful laws = record {
    best = spans_at;
    denied_exactly = λ place name bench report e f. denied_is above _ _ a (spans_at place name bench report e f);
    lowest = λ name e f. lowest_is _ _ a (govern_at name e f);
    none_exactly = λ name e f. none_is _ _ a (govern_at name e f);
    same = λ admitted' holds' above' calls' a' e hold rank x.
        answered_once holds holds' (held_after admitted calls) above above' (held_ruled_at admitted calls) laws hold rank q a a' answered (subst (λ (r : Rules). Answered holds' above' r q a') e x);
  }

-- the same, for a past that leaves the rules held here
pub lawful_here : {S : Type 0} (admitted : ℕ → ℕ → Bool) (holds : ℕ → ℕ → S → Bool) (above : Order) (past : List (Call S)) (rules : Rules) → rules ≡ held_after admitted past → (q : Question S) (a : Told) → Answered holds above rules q a → Decided above → Law admitted holds above past q a
lawful_here admitted holds above past rules e q a h laws = lawful admitted holds above past q a (subst (λ (r : Rules). Answered holds above r q a) e h) laws

-- the same, for the sheet that a list of calls made of one that held nothing
pub lawful_after : {A P S : Type 0} (admitted : A → ℕ → ℕ → Bool) (holds : A → ℕ → ℕ → S → Bool) (above : P → Order) → ((p : P) → Decided (above p)) → (alphabet alphabet' : A) (policy policy' : P) (calls : List (Call S)) (before rules : Rules) → alphabet' ≡ alphabet → policy' ≡ policy → rules ≡ held_from (admitted alphabet) before calls → before ≡ [] → (q : Question S) (a : Told) → Answered (holds alphabet') (above policy') rules q a → Law (admitted alphabet) (holds alphabet) (above policy) calls q a
lawful_after {A} {P} admitted holds above laws alphabet alphabet' policy policy' calls before rules ea ep er eb q a h =
    lawful_here (admitted alphabet) (holds alphabet) (above policy) calls rules (er ∙ ap (λ (b : Rules). held_from (admitted alphabet) b calls) eb) q a
    (subst (λ (p : P). Answered (holds alphabet) (above p) rules q a) ep (subst (λ (x : A). Answered (holds x) (above policy') rules q a) ea h)) (laws policy)
