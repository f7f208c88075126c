-- What the lines of a constraint file do: which policy is in force, which rules are held, and what is printed. Assumes nothing.
use Rattle.std.specs.Prelude.{ℕ, ◌<◌, ◌≤◌, List, [], ◌∷◌, ◌++◌, length, Ok, Err, Result, ◌≢◌}
use Rattle.rules.specs.Alphabets.{bytes_admitted, bytes_held, folded}
use Rattle.rules.specs.Languages.{Sight, seen}
use Rattle.rules.specs.Readings.{Reading}
use Rattle.rules.specs.Trees.{Tree, rows, size}
use Rattle.text.specs.Grammar.{Text}
use Rattle.text.specs.Reading.{Denied}
use Rattle.policies.specs.Orders.{Order}
use Rattle.policies.specs.Named.{named_above}
use Rattle.policies.specs.declared.named.NamedPolicy.{NamedPolicy}
use Rattle.policies.specs.declared.named.NamedPolicy.TheVariants.{Posix}
use Rattle.sheet.specs.Changes.{Rules, add_answer, added}
use Rattle.sheet.specs.Questions.{at, Read, BestBy, Lowest, needed}
use Rattle.session.specs.declared.line.State.{State}
use Rattle.session.specs.declared.line.State.TheVariants.{Awaiting, Serving}
use Rattle.session.specs.Kinds.{Names, NamesNone, rule_line, name_line}
use Rattle.session.specs.Served.{asked}
use Rattle.constraints.specs.Printed.{rule_said, name_said}

-- a name, as the leaves see it: bytes, capitals as small letters
abbrev pub folded_name : List ℕ → List Sight
folded_name name = seen (λ lo hi byte. bytes_held lo hi (folded byte)) name

-- a text is read and its rule added: the rules after, and the place or the number, that of the text before that of the add; 64 rows are lent
pub data TextAdded (rules : Rules) (text : List ℕ) : Rules → Result ℕ ℕ → Type 0 where
  text_denied : {n : ℕ} → Denied text 64 n → TextAdded rules text rules (Err n)
  text_read : length text ≤ 200 → (t : Tree) → Text text t → size t ≤ 64
      → TextAdded rules text (added bytes_admitted rules (rows t)) (add_answer bytes_admitted rules (rows t))

-- a name is put to the rules, with a bench of this length: the lowest place whose rule reads it and that rule's best reading, or the number
pub data NameAnswered (above : Order) (rules : Rules) (bench : ℕ) (name : List ℕ) : Result (ℕ × Reading) ℕ → Type 0 where
  name_too_long : 120 < length name → NameAnswered above rules bench name (Err 8)
  name_not_read : length name ≤ 120 → ((k : ℕ) → k < length rules → Read (at rules k) (folded_name name) → ⊥) → NameAnswered above rules bench name (Err 11)
  bench_too_short : {place : ℕ} → length name ≤ 120 → Lowest rules (folded_name name) place → bench < needed (length (at rules place)) (length name) → NameAnswered above rules bench name (Err 9)
  name_read : {place : ℕ} {x : Reading} → length name ≤ 120 → Lowest rules (folded_name name) place → needed (length (at rules place)) (length name) ≤ bench
      → BestBy above (at rules place) (folded_name name) x → NameAnswered above rules bench name (Ok (place, x))

-- a line, served with a bench of this length: state, policy and rules before it, then those after it, and what it prints
pub data Answers (bench : ℕ) : State → NamedPolicy → Rules → List ℕ → State → NamedPolicy → Rules → List ℕ → Type 0 where
  policy_comes : {p q : NamedPolicy} {rules : Rules} {l : List ℕ} → Names p l → Answers bench Awaiting q rules l Serving p [] []
  policy_awaited : {q : NamedPolicy} {rules : Rules} {l : List ℕ} → NamesNone l → Answers bench Awaiting q rules l Awaiting q rules asked
  rule_comes : {q : NamedPolicy} {rules rules' : Rules} {text : List ℕ} {r : Result ℕ ℕ} → TextAdded rules text rules' r
      → Answers bench Serving q rules (rule_line text) Serving q rules' (rule_said r)
  name_comes : {q : NamedPolicy} {rules : Rules} {name : List ℕ} {r : Result (ℕ × Reading) ℕ} → NameAnswered (named_above q) rules bench name r
      → Answers bench Serving q rules (name_line name) Serving q rules (name_said r)
  not_served : {q : NamedPolicy} {rules : Rules} {l : List ℕ} → ((x : List ℕ) → l ≢ rule_line x) → ((x : List ℕ) → l ≢ name_line x)
      → Answers bench Serving q rules l Serving q rules asked

-- all lines in turn, and all that they print
pub data Session (bench : ℕ) : State → NamedPolicy → Rules → List (List ℕ) → List ℕ → Type 0 where
  session_ends : {s : State} {q : NamedPolicy} {rules : Rules} → Session bench s q rules [] []
  session_goes : {s s' : State} {q q' : NamedPolicy} {rules rules' : Rules} {l p more : List ℕ} {ls : List (List ℕ)}
      → Answers bench s q rules l s' q' rules' p → Session bench s' q' rules' ls more → Session bench s q rules (l ∷ ls) (p ++ more)

-- a whole file: no policy has come, no rule is held, and the bench has 65,536 bytes; which policy stands before one is named does not matter
abbrev pub FileSession : List (List ℕ) → List ℕ → Type 0
FileSession ls printed = Session 65536 Awaiting Posix [] ls printed
