-- The law over histories: what a question is told after any list of calls. Assumes nothing.
use Rattle.std.specs.Prelude.{◌≡◌, ℕ, ◌<◌, ◌≤◌, Bool, ◌⊎◌, ◌↔◌, List, [], ◌∷◌, length, take, Some, None, Ok, Err, Option, Result}
use Rattle.rules.specs.declared.row.Row.{Row}
use Rattle.rules.specs.Trees.{Tree, Of}
use Rattle.rules.specs.declared.denial.Denial.{Denial}
use Rattle.rules.specs.Denials.{number, numbered}
use Rattle.rules.specs.Languages.{Sight, seen}
use Rattle.rules.specs.Readings.{Reading, ReadsWhole}
use Rattle.policies.specs.Orders.{Order}
use Rattle.positions.specs.Positions.{follow_sets}
use Rattle.sheet.specs.declared.summary.Summary.{Summary}
use Rattle.sheet.specs.Changes.{Rules}
use Rattle.sheet.specs.Questions.{at, Read, BestBy, Lowest, needed, name_met, spans_met, sets_met, summary}
use Rattle.sheet.specs.Histories.{Question, spans, govern, sets, Call, held_after}

-- what a question is told: the result, a denial by its number, with the entries or the masks that were written
pub data Told : Type 0 where
  spans_told : Result Reading ℕ → Told
  govern_told : Result ℕ ℕ → Told
  sets_told : Result (Summary × List ℕ) ℕ → Told

-- what a spans by a rule of so many nodes tells: its first entries, or the number
abbrev pub spans_result : ℕ → Result (Unit {0}) Denial → Reading → Told
spans_result nodes (Ok done) report' = spans_told (Ok (take nodes report'))
spans_result nodes (Err d) report' = spans_told (Err (number d))

-- what a govern tells
abbrev pub govern_result : Result ℕ Denial → Told
govern_result r = govern_told (numbered r)

-- what a sets tells: the sets and as many masks as there are leaves, or the number
abbrev pub sets_result : Result Summary Denial → List ℕ → Told
sets_result (Ok s) masks' = sets_told (Ok (s, take s.leaves masks'))
sets_result (Err d) masks' = sets_told (Err (number d))

-- the answer to a spans that meets this of the checks 7 to 10
abbrev pub SpansTold : Option ℕ → Order → List Row → List Sight → Told → Type 0
SpansTold (Some n) above rs w a = a ≡ spans_told (Err n)
SpansTold None above rs w a = ((x : Reading) × BestBy above rs w x × (a ≡ spans_told (Ok x))) ⊎ ((Read rs w → ⊥) × (a ≡ spans_told (Err 11)))

-- the answer to a govern that meets this check
abbrev pub GovernTold : Option ℕ → Rules → List Sight → Told → Type 0
GovernTold (Some n) rules w a = a ≡ govern_told (Err n)
GovernTold None rules w a = ((p : ℕ) × Lowest rules w p × (a ≡ govern_told (Ok p))) ⊎ (((k : ℕ) → k < length rules → Read (at rules k) w → ⊥) × (a ≡ govern_told (Err 11)))

-- the answer to a sets that meets this check
abbrev pub SetsTold : Option ℕ → List Row → Told → Type 0
SetsTold (Some n) rs a = a ≡ sets_told (Err n)
SetsTold None rs a = (t : Tree) × Of rs t × (a ≡ sets_told (Ok (summary t, follow_sets t 0)))

-- what the calls promise of a question's answer, by the rules held
abbrev pub Answered : {S : Type 0} → (ℕ → ℕ → S → Bool) → Order → Rules → Question S → Told → Type 0
Answered holds above rules (spans place name bench report) a = SpansTold (spans_met rules place (length name) bench report) above (at rules place) (seen holds name) a
Answered holds above rules (govern name) a = GovernTold (name_met (length name)) rules (seen holds name) a
Answered holds above rules (sets place masks) a = SetsTold (sets_met rules place masks) (at rules place) a

-- two symbols are held by the same leaves of the rows
abbrev pub LeavesAlike : List Row → Sight → Sight → Type 0
LeavesAlike [] one other = Unit {0}
LeavesAlike (r ∷ rs) one other = (r.kind ≡ 1 → one r.lo r.hi ≡ other r.lo r.hi) × LeavesAlike rs one other

-- two alphabets hold alike: they agree on every leaf of the rules and every symbol
abbrev pub HoldAlike : {S : Type 0} → (ℕ → ℕ → S → Bool) → (ℕ → ℕ → S → Bool) → Rules → Type 0
HoldAlike {S} one other rules = (k : ℕ) → k < length rules → (s : S) → LeavesAlike (at rules k) (λ lo hi. one lo hi s) (λ lo hi. other lo hi s)

-- two policies rank alike: their orders agree on any two readings of one name of the alphabet by one of the rules
abbrev pub RankAlike : {S : Type 0} → (ℕ → ℕ → S → Bool) → Order → Order → Rules → Type 0
RankAlike {S} holds one other rules = (k : ℕ) → k < length rules → (t : Tree) → Of (at rules k) t → (name : List S) (x y : Reading) → ReadsWhole (seen holds name) t x → ReadsWhole (seen holds name) t y → one (at rules k) 0 x y ≡ other (at rules k) 0 x y

-- the rules that the calls leave
module _ {S : Type 0} (admitted : ℕ → ℕ → Bool) (holds : ℕ → ℕ → S → Bool) (above : Order) (calls : List (Call S)) where
  -- a spans whose place is held, whose name has at most 120 symbols, and whose bench and report are long enough
  pub record Fitting (place : ℕ) (name : List S) (bench report : ℕ) : Type 0 where
    pub held : place < length (held_after admitted calls)
    pub short : length name ≤ 120
    pub cells : needed (length (at (held_after admitted calls) place)) (length name) ≤ bench
    pub entries : length (at (held_after admitted calls) place) ≤ report

  -- the law of the answer a to the question q, asked after the calls
  pub record Law (q : Question S) (a : Told) : Type 0 where
    -- a fitting spans reports the reading that outranks every other, or is denied with 11 and there is none
    pub best : (place : ℕ) (name : List S) (bench report : ℕ) → q ≡ spans place name bench report → Fitting place name bench report
        → ((x : Reading) × BestBy above (at (held_after admitted calls) place) (seen holds name) x × (a ≡ spans_told (Ok x)))
        ⊎ ((Read (at (held_after admitted calls) place) (seen holds name) → ⊥) × (a ≡ spans_told (Err 11)))
    -- it is denied with 11 exactly where the name has no reading
    pub denied_exactly : (place : ℕ) (name : List S) (bench report : ℕ) → q ≡ spans place name bench report → Fitting place name bench report
        → (a ≡ spans_told (Err 11)) ↔ (Read (at (held_after admitted calls) place) (seen holds name) → ⊥)
    -- a govern of a name of at most 120 symbols returns the lowest place whose rule has a reading of it
    pub lowest : (name : List S) → q ≡ govern name → length name ≤ 120 → (p : ℕ) → (a ≡ govern_told (Ok p)) ↔ Lowest (held_after admitted calls) (seen holds name) p
    -- and is denied with 11 exactly where no rule has one
    pub none_exactly : (name : List S) → q ≡ govern name → length name ≤ 120 → (a ≡ govern_told (Err 11)) ↔ ((k : ℕ) → k < length (held_after admitted calls) → Read (at (held_after admitted calls) k) (seen holds name) → ⊥)
    -- where another list of calls leaves the same rules, under a policy that ranks alike and an alphabet that holds alike, the same question has the same answer
    pub same : (admitted' : ℕ → ℕ → Bool) (holds' : ℕ → ℕ → S → Bool) (above' : Order) (calls' : List (Call S)) (a' : Told)
        → held_after admitted' calls' ≡ held_after admitted calls
        → HoldAlike holds holds' (held_after admitted calls)
        → RankAlike holds above above' (held_after admitted calls)
        → Answered holds' above' (held_after admitted' calls') q a'
        → a ≡ a'
