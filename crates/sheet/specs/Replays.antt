-- What the calls, the sheet and the answer of a replay stand for. Assumes nothing.
use Rattle.std.specs.Prelude.{◌≡◌, ℕ, Bool, true, false, List, [], map, length, vec_items, Result, Ok, Err}
use Rattle.policies.specs.Orders.{Order}
use Rattle.sheet.specs.declared.history.Call.{Call as Made}
use Rattle.sheet.specs.declared.history.Call.TheVariants.{Add, Drop, Lock, Unlock, Ask}
use Rattle.sheet.specs.declared.history.Question.{Question as Asked}
use Rattle.sheet.specs.declared.history.Question.TheVariants.{Spans, Govern, Sets}
use Rattle.sheet.specs.declared.history.Answer.{Answer}
use Rattle.sheet.specs.declared.history.Answer.TheVariants.{Spans as SpansAnswer, Govern as GovernAnswer, Sets as SetsAnswer}
use Rattle.sheet.specs.declared.history.Sheet.{Sheet}
use Rattle.sheet.specs.declared.history.Sheet.TheVariants.{Open, Locked}
use Rattle.sheet.specs.declared.history.Replayed.{Replayed}
use Rattle.sheet.specs.declared.history.NotAllowed.{NotAllowed}
use Rattle.sheet.specs.Changes.{Rules}
use Rattle.sheet.specs.Histories.{Question, spans, govern, sets, Call, add, drop, lock, unlock, ask, leads_locked, held_from}
use Rattle.sheet.specs.Law.{Told, spans_result, govern_result, sets_result, Law}
use Rattle.sheet.specs.Questions.{at}
use Rattle.sheet.specs.Sheets.{holding, locked}

-- the question, with the lengths of what it lends
abbrev pub asked : {S : Type 0} → Asked S → Question S
asked (Spans place name bench report) = spans place (vec_items name) (length (vec_items bench)) (length (vec_items report))
asked (Govern name) = govern (vec_items name)
asked (Sets place masks) = sets place (length (vec_items masks))

-- the call
abbrev pub meant : {S : Type 0} → Made S → Call S
meant (Add rs) = add (vec_items rs)
meant (Drop place) = drop place
meant Lock = lock
meant Unlock = unlock
meant (Ask q) = ask (asked q)

-- what the answer tells, with what was lent as it is after the question
abbrev pub told : {S : Type 0} → Rules → Asked S → Answer → Told
told rules (Spans place name bench report) (SpansAnswer r) = spans_result (length (at rules place)) r (vec_items report)
told rules (Spans place name bench report) (GovernAnswer r) = govern_result r
told rules (Spans place name bench report) (SetsAnswer r) = sets_result r []
told rules (Govern name) (SpansAnswer r) = spans_result 0 r []
told rules (Govern name) (GovernAnswer r) = govern_result r
told rules (Govern name) (SetsAnswer r) = sets_result r []
told rules (Sets place masks) (SpansAnswer r) = spans_result 0 r []
told rules (Sets place masks) (GovernAnswer r) = govern_result r
told rules (Sets place masks) (SetsAnswer r) = sets_result r (vec_items masks)

module _ {A P : Type 0} where
  -- whether the sheet is open, what it holds, and what it was opened with
  abbrev pub is_open : Sheet A P → Bool
  is_open (Open s) = true
  is_open (Locked s) = false

  abbrev pub rules_in : Sheet A P → Rules
  rules_in (Open s) = holding s
  rules_in (Locked s) = locked s

  abbrev pub alphabet_in : Sheet A P → A
  alphabet_in (Open s) = s.kept.alphabet
  alphabet_in (Locked s) = s.kept.alphabet

  abbrev pub policy_in : Sheet A P → P
  policy_in (Open s) = s.kept.policy
  policy_in (Locked s) = s.kept.policy

-- what a replay of calls, and then a question, gives back: not allowed, and the sheet as it was, exactly where the calls are not, or lead to an open sheet; else, for a sheet that held nothing, the law of its answer
abbrev pub Replay : {A P S : Type 0} → (A → ℕ → ℕ → Bool) → (A → ℕ → ℕ → S → Bool) → (P → Order) → A → P → Rules → List (Made S) → Asked S → Asked S → Result (Replayed A P) (NotAllowed A P) → Type 0
Replay admitted holds above alphabet policy rules calls q q' (Err not) =
    (leads_locked true (map meant calls) ≡ false)
    × (not.sheet.kept.alphabet ≡ alphabet) × (not.sheet.kept.policy ≡ policy)
    × (holding not.sheet ≡ rules)
Replay admitted holds above alphabet policy rules calls q q' (Ok r) =
    (leads_locked true (map meant calls) ≡ true)
    × (r.sheet.kept.alphabet ≡ alphabet) × (r.sheet.kept.policy ≡ policy)
    × (locked r.sheet ≡ held_from (admitted alphabet) rules (map meant calls))
    × (rules ≡ [] → Law (admitted alphabet) (holds alphabet) (above policy) (map meant calls) (asked q) (told (locked r.sheet) q' r.answer))
