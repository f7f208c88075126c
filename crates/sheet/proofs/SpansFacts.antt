-- The answer to a spans, from its checks and from what the matcher says.
use Rattle.std.proofs.Common.{◌≡◌, ℕ, ◌<◌, ◌≤◌, Bool, cond, ltb, List, ◌++◌, length, get_or, drop, Some, None, Ok, Err, Option, sym, refl, ap, ◌∙◌, subst, ⊎_elim, arith}
use Rattle.std.proofs.lemmas.List.{get_or_append_left}
use Rattle.std.proofs.lemmas.Bool.{cases_Bool, cond-true, cond-false, ltb-false, ltb-true, lt-ltb, le-ltb}
use Rattle.rules.specs.declared.row.Row.{Row}
use Rattle.rules.specs.declared.denial.Denial.{Denial}
use Rattle.rules.specs.Trees.{Tree, Of, size}
use Rattle.rules.specs.Denials.{number}
use Rattle.rules.specs.Languages.{Sight, In, seen}
use Rattle.rules.specs.Readings.{Reading, report_row}
use Rattle.rules.proofs.Shapes.{both_none}
use Rattle.rules.proofs.OneTree.{one_tree}
use Rattle.rules.proofs.RowFacts.{length_rows}
use Rattle.rules.proofs.ReadingFacts.{readings_exactly, reads_length}
use Rattle.policies.specs.Orders.{Order, Best}
use Rattle.matcher.specs.Matching.{Fit}
use Rattle.sheet.specs.Changes.{Rules, place_met}
use Rattle.sheet.specs.Questions.{at, Read, name_met, bench_met, room_met, needed, spans_met, Reported, Spanned, SpansAnswer}
use Rattle.sheet.proofs.QuestionFacts.{first_of, second_of, seen_long}

module _ (rules : Rules) (place symbols bench report nodes : ℕ) (held : place_met rules place ≡ None) (nodes-are : nodes ≡ length (at rules place)) where
  pub bench_first : (k : ℕ) → name_met symbols ≡ None → bench_met nodes symbols bench ≡ Some k → spans_met rules place symbols bench report ≡ Some k
  bench_first k s e =
      second_of (place_met rules place) _ (Some k) held
      (second_of (name_met symbols) _ (Some k) s (first_of (bench_met (length (at rules place)) symbols bench) _ k (ap (λ (m : ℕ). bench_met m symbols bench) (sym nodes-are) ∙ e)))

  pub room_last : (o : Option ℕ) → name_met symbols ≡ None → bench_met nodes symbols bench ≡ None → room_met nodes report ≡ o → spans_met rules place symbols bench report ≡ o
  room_last o s b e =
      second_of (place_met rules place) _ o held
      (second_of (name_met symbols) _ o s
      (second_of (bench_met (length (at rules place)) symbols bench) _ o (ap (λ (m : ℕ). bench_met m symbols bench) (sym nodes-are) ∙ b) (ap (λ (m : ℕ). room_met m report) (sym nodes-are) ∙ e)))

some_not_none : (k : ℕ) → Some k ≡ None → ⊥
some_not_none k e = let z : ◌≡◌ {A = ℕ} 0 1 = cc in omega arith

place_held : (rules : Rules) (place : ℕ) → place_met rules place ≡ None → place < length rules
place_held rules place e = ⊎_elim (λ y. ltb-true place (length rules) y) (λ n. absurd (some_not_none 7 (sym (cond-false _ _ _ n) ∙ e))) (cases_Bool (ltb place (length rules)))

-- a check on lengths that is not met
pub unmet : (a b k : ℕ) → cond {A = Option ℕ} (ltb a b) (Some k) None ≡ None → b ≤ a
unmet a b k e = ⊎_elim (λ y. absurd (some_not_none k (sym (cond-true _ _ _ y) ∙ e))) (λ n. ltb-false a b n) (cases_Bool (ltb a b))

-- no check is met: the place is held, and name, bench and report fit
pub record Passed (rules : Rules) (place symbols bench report : ℕ) : Type 0 where
  pub held : place < length rules
  pub short : symbols ≤ 120
  pub cells : needed (length (at rules place)) symbols ≤ bench
  pub entries : length (at rules place) ≤ report

pub all_passed : (rules : Rules) (place symbols bench report : ℕ) → spans_met rules place symbols bench report ≡ None → Passed rules place symbols bench report
all_passed rules place symbols bench report e =
    let a = both_none (place_met rules place) _ e in
    let b = both_none (name_met symbols) _ a.1 in
    let c = both_none (bench_met (length (at rules place)) symbols bench) _ b.1 in
    record { held = place_held rules place a.0; short = unmet 120 symbols 8 b.0; cells = unmet bench (needed (length (at rules place)) symbols) 9 c.0; entries = unmet report (length (at rules place)) 10 c.1 }

pub all_fit : (rules : Rules) (place : ℕ) (t : Tree) (w : List Sight) (bench : List ℕ) (report : Reading) → Of (at rules place) t → spans_met rules place (length w) (length bench) (length report) ≡ None → Fit t w bench report
all_fit rules place t w bench report of e =
    let p = all_passed rules place (length w) (length bench) (length report) e in
    let n : length (at rules place) ≡ size t = ap length of ∙ length_rows t in
    record { short = p.short; cells = subst (λ (k : ℕ). needed k (length w) ≤ length bench) n p.cells; entries = subst (λ (k : ℕ). k ≤ length report) n p.entries }

-- a name has as many symbols as are seen of it
pub seen_met : {S : Type 0} (holds : ℕ → ℕ → S → Bool) (name : List S) (rules : Rules) (place bench report : ℕ) (o : Option ℕ) → spans_met rules place (length name) bench report ≡ o → spans_met rules place (length (seen holds name)) bench report ≡ o
seen_met holds name rules place bench report o e = ap (λ (n : ℕ). spans_met rules place n bench report) (seen_long holds name) ∙ e

module _ (above : Order) (w : List Sight) (rules : Rules) (place : ℕ) (bench : List ℕ) (report : Reading) where
  pub denied : (d : Denial) → spans_met rules place (length w) (length bench) (length report) ≡ Some (number d) → SpansAnswer above w rules place bench bench report report (Err d)
  denied d e = subst (λ (o : Option ℕ). Spanned o above (at rules place) w bench bench report report (Err d)) (sym e) (refl, refl, refl)

  pub not_read : (bench' : List ℕ) (d : Denial) → spans_met rules place (length w) (length bench) (length report) ≡ None → number d ≡ 11 → (Read (at rules place) w → ⊥) → SpansAnswer above w rules place bench bench' report report (Err d)
  not_read bench' d e n h = subst (λ (o : Option ℕ). Spanned o above (at rules place) w bench bench' report report (Err d)) (sym e) (n, h, refl)

  pub found : (bench' : List ℕ) (report' x : Reading) (t : Tree) → spans_met rules place (length w) (length bench) (length report) ≡ None → Of (at rules place) t → Best above t w x → report' ≡ x ++ drop (size t) report → SpansAnswer above w rules place bench bench' report report' (Ok tt)
  found bench' report' x t e of best is =
      let long : length (at rules place) ≡ size t = ap length of ∙ length_rows t in
      let long_x : length x ≡ size t = reads_length best.reads in
      let r : Reported above (at rules place) w report report' = record {
        reading = x;
        best = (t, of, best);
        written = is ∙ ap (λ (k : ℕ). x ++ drop k report) (sym long);
        rows_shown = λ n h. ap report_row (ap (λ (l : Reading). get_or l n None) is ∙ get_or_append_left x (drop (size t) report) None n (omega arith));
      } in
      subst (λ (o : Option ℕ). Spanned o above (at rules place) w bench bench' report report' (Ok tt)) (sym e) r

-- a name outside the language of the tree is not read
pub outside : (rs : List Row) (t : Tree) (w : List Sight) → Of rs t → (In t w → ⊥) → Read rs w → ⊥
outside rs t w of h r =
    let e : r.0 ≡ t = one_tree r.0 t (sym r.1 ∙ of) in
    h (subst (λ (u : Tree). In u w) e ((readings_exactly r.0 w).1 r.2))

-- where the place is held, and name, bench and report fit, no check is met
below_none : (a b k : ℕ) → b ≤ a → cond {A = Option ℕ} (ltb a b) (Some k) None ≡ None
below_none a b k h = cond-false _ _ _ (le-ltb a b h)

pub name_fits : (symbols : ℕ) → symbols ≤ 120 → name_met symbols ≡ None
name_fits symbols h = below_none 120 symbols 8 h

pub fit_met : (rules : Rules) (place symbols bench report : ℕ) → place < length rules → symbols ≤ 120 → needed (length (at rules place)) symbols ≤ bench → length (at rules place) ≤ report → spans_met rules place symbols bench report ≡ None
fit_met rules place symbols bench report h s b r =
    room_last rules place symbols bench report (length (at rules place)) (cond-true _ _ _ (lt-ltb place (length rules) h)) refl None (name_fits symbols s) (below_none bench (needed (length (at rules place)) symbols) 9 b) (below_none report (length (at rules place)) 10 r)
