-- What netread prints, line by line. Assumes nothing.
use Rattle.std.specs.Prelude.{◌≡◌, ℕ, ◌≤◌, List, [], ◌∷◌, ◌++◌, length, decimal, Result, MatchResult, ◌≢◌}
use Rattle.rules.specs.Trees.{Tree, size}
use Rattle.text.specs.Grammar.{Text}
use Rattle.text.specs.Reading.{Denied}
use Rattle.session.specs.declared.line.State.{State}
use Rattle.session.specs.declared.line.State.TheVariants.{Awaiting, Serving}
use Rattle.session.specs.Kinds.{NamesPolicy, rule_line}

-- the state before the first line
abbrev pub start : State
start = Awaiting

-- `?` on a line, and `! ` with a number on a line
abbrev pub asked : List ℕ
asked = 63 ∷ 10 ∷ []

abbrev pub denied : ℕ → List ℕ
denied n = 33 ∷ 32 ∷ (decimal n ++ (10 ∷ []))

-- a text that is read prints nothing, another the number of its denial, for which 64 rows are lent
pub data RulePrints (text : List ℕ) : List ℕ → Type 0 where
  rule_read : length text ≤ 200 → (t : Tree) → Text text t → size t ≤ 64 → RulePrints text []
  rule_denied : {n : ℕ} → Denied text 64 n → RulePrints text (denied n)

-- something that P allows is printed behind what was printed before
pub record Appends (P : List ℕ → Type 0) (old new : List ℕ) : Type 0 where
  pub printed : List ℕ
  pub allowed : P printed
  pub appended : new ≡ old ++ printed

-- this is printed behind what was printed before, and nothing where the call fails
abbrev pub Prints : {X E : Type 0} → Result X E → List ℕ → List ℕ → List ℕ → Type 0
Prints r printed old new = MatchResult r (λ _. new ≡ old ++ printed) (λ _. new ≡ old)

-- the same of something that P allows beside the call's value
abbrev pub PrintsBy : {X E : Type 0} → Result X E → (X → List ℕ → Type 0) → List ℕ → List ℕ → Type 0
PrintsBy r P old new = MatchResult r (λ x. Appends (P x) old new) (λ _. new ≡ old)

-- a line in a state: the state after it, and what it prints
pub data Answers : State → List ℕ → State → List ℕ → Type 0 where
  policy_comes : {l : List ℕ} → NamesPolicy l → Answers Awaiting l Serving []
  policy_awaited : {l : List ℕ} → (NamesPolicy l → ⊥) → Answers Awaiting l Awaiting asked
  rule_comes : {text p : List ℕ} → RulePrints text p → Answers Serving (rule_line text) Serving p
  not_served : {l : List ℕ} → ((text : List ℕ) → l ≢ rule_line text) → Answers Serving l Serving asked

-- all lines in turn, from a state, and all that they print
pub data Session : State → List (List ℕ) → List ℕ → Type 0 where
  session_ends : {s : State} → Session s [] []
  session_goes : {s t : State} {l p q : List ℕ} {ls : List (List ℕ)} → Answers s l t p → Session t ls q → Session s (l ∷ ls) (p ++ q)
