-- The kinds of lines. Assumes nothing.
use Rattle.std.specs.Prelude.{◌≡◌, ℕ, ◌⊎◌, List, ◌∷◌, codes, ◌≢◌}
use Rattle.policies.specs.declared.named.NamedPolicy.{NamedPolicy}
use Rattle.policies.specs.declared.named.NamedPolicy.TheVariants.{Posix, FirstLongest}
use Rattle.session.specs.declared.line.Line.{Line}
use Rattle.session.specs.declared.line.Line.TheVariants.{Policy, Rule, Name, Other}

-- exactly `posix` or `first`
abbrev pub NamesPolicy : List ℕ → Type 0
NamesPolicy l = (l ≡ codes "posix") ⊎ (l ≡ codes "first")

-- the line is exactly this policy's name
abbrev pub Names : NamedPolicy → List ℕ → Type 0
Names Posix l = l ≡ codes "posix"
Names FirstLongest l = l ≡ codes "first"

-- it is no policy's name
abbrev pub NamesNone : List ℕ → Type 0
NamesNone l = (p : NamedPolicy) → Names p l → ⊥

-- `r ` and a text, `n ` and a name
abbrev pub rule_line : List ℕ → List ℕ
rule_line text = 114 ∷ 32 ∷ text

abbrev pub name_line : List ℕ → List ℕ
name_line name = 110 ∷ 32 ∷ name

-- the line is of this kind
abbrev pub Is : Line → List ℕ → Type 0
Is (Policy p) l = Names p l
Is (Rule text) l = l ≡ rule_line text.now
Is (Name name) l = l ≡ name_line name.now
Is Other l = NamesNone l × ((x : List ℕ) → l ≢ rule_line x) × ((x : List ℕ) → l ≢ name_line x)
