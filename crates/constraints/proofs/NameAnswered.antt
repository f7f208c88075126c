-- What govern and spans answer to a name, put together.
use Rattle.std.proofs.Common.{◌≡◌, ℕ, ◌<◌, ◌≤◌, Bool, true, false, cond, ltb, ◌⊎◌, List, [], ◌∷◌, ◌++◌, length, replicate, Some, None, Ok, Err, decimal, Option, Result, sym, refl, ap, subst, inl, inr, ⊎_elim, arith, ltb-false, ltb-true, lt-ltb}
use Rattle.std.proofs.lemmas.Bool.{cond-true}
use Rattle.rules.specs.declared.denial.Denial.{Denial}
use Rattle.rules.specs.Denials.{number}
use Rattle.rules.specs.Readings.{Reading}
use Rattle.policies.specs.Orders.{Order}
use Rattle.sheet.specs.Changes.{Rules}
use Rattle.sheet.specs.Questions.{at, Lowest, needed, spans_met, Spanned, SpansAnswer, Governed, GovernAnswer}
use Rattle.sheet.proofs.QuestionFacts.{seen_long}
use Rattle.sheet.proofs.SpansFacts.{seen_met, fit_met, bench_first, name_fits}
use Rattle.constraints.specs.Printed.{name_said}
use Rattle.constraints.proofs.Said.{reading_said}
use Rattle.constraints.specs.NameLines.{SaysAnswer}
use Rattle.session.specs.Served.{Prints, PrintsBy}
use Rattle.constraints.specs.Served.{folded_name, NameAnswered, name_too_long, name_not_read, bench_too_short, name_read}

long : (name : List ℕ) → length (folded_name name) ≡ length name
long name = seen_long _ name

err_same : {X : Type 0} {m n : ℕ} → ◌≡◌ {A = Result X ℕ} (Err m) (Err n) → m ≡ n
err_same e = cc

ok_or_err : {X : Type 0} {x : X} {n : ℕ} → ◌≡◌ {A = Result X ℕ} (Ok x) (Err n) → ⊥
ok_or_err e = let z : ◌≡◌ {A = ℕ} 0 1 = cc in omega arith

-- an answer by its number
by_number : (above : Order) (rules : Rules) (bench : ℕ) (name : List ℕ) {m n : ℕ} → m ≡ n → NameAnswered above rules bench name (Err n) → NameAnswered above rules bench name (Err m)
by_number above rules bench name e h = subst (λ (k : ℕ). NameAnswered above rules bench name (Err k)) (sym e) h

-- a govern that is denied
pub not_governed : (above : Order) (rules : Rules) (bench : ℕ) (name : List ℕ) (d : Denial) → GovernAnswer rules (folded_name name) (Err d) → NameAnswered above rules bench name (Err (number d))
not_governed above rules bench name d h = go (ltb 120 (length (folded_name name))) refl h
  where
    go : (b : Bool) → ltb 120 (length (folded_name name)) ≡ b → Governed (cond b (Some 8) None) rules (folded_name name) (Err d) → NameAnswered above rules bench name (Err (number d))
    go true e g = by_number above rules bench name (err_same g) (name_too_long (let l = ltb-true 120 _ e in omega (arith, long name)))
    go false e g = by_number above rules bench name g.0 (name_not_read (let l = ltb-false 120 _ e in omega (arith, long name)) g.1)

-- the line of a denial
pub says_denial : {E : Type 0} (above : Order) (rules : Rules) (bench n : ℕ) (name old new : List ℕ) (r : Result (Unit {0}) E)
    → NameAnswered above rules bench name (Err n) → Prints r (name_said (Err n)) old new
    → PrintsBy r (λ _. SaysAnswer above rules bench name) old new
says_denial above rules bench n name old new (Ok done) h e = record { printed = name_said (Err n); allowed = record { answer = Err n; answered = h; said = refl }; appended = e }
says_denial above rules bench n name old new (Err y) h e = e

-- a report that holds nothing
abbrev blank : ℕ → Reading
blank k = replicate k None

-- the answers of a spans at the place that govern gave, with a report that held nothing
module _ (above : Order) (rules : Rules) (name : List ℕ) (place : ℕ) (bench bench' : List ℕ) (k : ℕ) (report' : Reading)
    (short : length name ≤ 120) (low : Lowest rules (folded_name name) place) (room : length (at rules place) ≤ length (blank k)) where
  abbrev Answer : Result (Unit {0}) Denial → Type 0
  Answer r = SpansAnswer above (folded_name name) rules place bench bench' (blank k) report' r

  abbrev Told : Option ℕ → Result (Unit {0}) Denial → Type 0
  Told o r = Spanned o above (at rules place) (folded_name name) bench bench' (blank k) report' r

  told : (r : Result (Unit {0}) Denial) (o : Option ℕ) → spans_met rules place (length name) (length bench) (length (blank k)) ≡ o → Answer r → Told o r
  told r o e h = subst (λ (x : Option ℕ). Told x r) (seen_met _ name rules place (length bench) (length (blank k)) o e) h

  -- by whether the bench is too short
  by_bench : (r : Result (Unit {0}) Denial) → Answer r
      → ((length bench < needed (length (at rules place)) (length name)) × Told (Some 9) r) ⊎ ((needed (length (at rules place)) (length name) ≤ length bench) × Told None r)
  by_bench r h = go (ltb (length bench) (needed (length (at rules place)) (length name))) refl
    where
      go : (b : Bool) → ltb (length bench) (needed (length (at rules place)) (length name)) ≡ b
          → ((length bench < needed (length (at rules place)) (length name)) × Told (Some 9) r) ⊎ ((needed (length (at rules place)) (length name) ≤ length bench) × Told None r)
      go true e =
          inl (ltb-true (length bench) _ e, told r (Some 9) (bench_first rules place (length name) (length bench) (length (blank k)) (length (at rules place)) (cond-true _ _ _ (lt-ltb place (length rules) low.held)) refl 9 (name_fits (length name) short) (cond-true _ _ _ e)) h)
      go false e =
          let l = ltb-false (length bench) _ e in
          inr (l, told r None (fit_met rules place (length name) (length bench) (length (blank k)) low.held short l room) h)

  pub not_spanned : (d : Denial) → Answer (Err d) → NameAnswered above rules (length bench) name (Err (number d))
  not_spanned d h = ⊎_elim
      (λ s. by_number above rules (length bench) name (err_same s.1.0) (bench_too_short short low s.0))
      (λ s. absurd (s.1.1 low.reads)) (by_bench (Err d) h)

  -- the line of a reading
  pub says_reading : {E : Type 0} (old new : List ℕ) (r : Result (Unit {0}) E) → Answer (Ok tt) → Prints r (name_said (Ok (place, report'))) old new
      → PrintsBy r (λ _. SaysAnswer above rules (length bench) name) old new
  says_reading old new (Err y) h e = e
  says_reading old new (Ok done) h e = ⊎_elim
      (λ s. absurd (ok_or_err s.1.0))
      (λ s. record {
        printed = name_said (Ok (place, report'));
        allowed = record {
          answer = Ok (place, s.1.reading);
          answered = name_read short low s.0 s.1.best;
          said = ap (λ (x : List ℕ). decimal place ++ (x ++ (10 ∷ []))) (reading_said s.1.reading report' (length (at rules place)) k s.1.written);
        };
        appended = e;
      })
      (by_bench (Ok tt) h)
