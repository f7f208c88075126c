-- A list of calls, made one after the other.
use Rattle.std.proofs.Common.{◌≡◌, ℕ, ◌+◌, ◌<◌, ◌≤◌, Bool, true, cond, ◌&&◌, List, [], ◌∷◌, map, length, drop, Some, None, sym, refl, ap, ◌∙◌, ⊎_elim, arith}
use Rattle.std.proofs.lemmas.List.{drop_all, drop-drop}
use Rattle.std.proofs.lemmas.Option.{none-some, same_Some}
use Rattle.std.proofs.lemmas.Bool.{and_parts, cases_Bool, cond-true, cond-false}
use Rattle.sheet.specs.declared.history.Call.{Call as Made}
use Rattle.sheet.specs.declared.history.Sheet.{Sheet}
use Rattle.sheet.specs.Histories.{allows, open_then, held_then, leads_locked, held_from}
use Rattle.sheet.specs.Replays.{meant, is_open, rules_in, alphabet_in, policy_in}

drop_one : {X : Type 0} (l : List X) (i : ℕ) → drop 1 (drop i l) ≡ drop (i + 1) l
drop_one l i = drop-drop 1 i l

-- the first i of the calls are made: what is left is allowed, and leads to what the whole leads to
pub record SoFar {A P S : Type 0} (admitted : A → ℕ → ℕ → Bool) (start here : Sheet A P) (cs now-cs : List (Made S)) (i : ℕ) : Type 0 where
  pub within : i ≤ length cs
  pub untouched : drop i now-cs ≡ drop i cs
  pub allowed : leads_locked (is_open here) (map meant (drop i cs)) ≡ true
  pub rules : held_from (admitted (alphabet_in here)) (rules_in here) (map meant (drop i cs)) ≡ held_from (admitted (alphabet_in start)) (rules_in start) (map meant cs)
  pub alphabet : alphabet_in here ≡ alphabet_in start
  pub policy : policy_in here ≡ policy_in start

pub begun : {A P S : Type 0} (admitted : A → ℕ → ℕ → Bool) (start : Sheet A P) (cs : List (Made S)) → leads_locked (is_open start) (map meant cs) ≡ true → SoFar admitted start start cs cs 0
begun admitted start cs h = record { within = omega arith; untouched = refl; allowed = h; rules = refl; alphabet = refl; policy = refl }

module _ {A P S : Type 0} (admitted : A → ℕ → ℕ → Bool) (start here : Sheet A P) (cs now-cs : List (Made S)) (i : ℕ) (c : Made S) (so : SoFar admitted start here cs now-cs i) (front : drop i now-cs ≡ c ∷ drop (i + 1) now-cs) where
  next : map meant (drop i cs) ≡ meant c ∷ map meant (drop (i + 1) now-cs)
  next = ap (map meant) (sym so.untouched ∙ front)

  both : (allows (is_open here) (meant c) ≡ true) × (leads_locked (open_then (is_open here) (meant c)) (map meant (drop (i + 1) now-cs)) ≡ true)
  both = and_parts _ _ (sym (ap (leads_locked (is_open here)) next) ∙ so.allowed)

  pub may : allows (is_open here) (meant c) ≡ true
  may = both.0

  rest_same : drop (i + 1) now-cs ≡ drop (i + 1) cs
  rest_same = ap (drop 1) (sym front ∙ so.untouched) ∙ drop_one cs i

  pub again : (then : Sheet A P) (then-cs : List (Made S)) → i < length cs → drop (i + 1) then-cs ≡ drop (i + 1) now-cs → is_open then ≡ open_then (is_open here) (meant c) → rules_in then ≡ held_then (admitted (alphabet_in here)) (rules_in here) (meant c) → alphabet_in then ≡ alphabet_in here → policy_in then ≡ policy_in here → SoFar admitted start then cs then-cs (i + 1)
  again then then-cs less kept o r a p =
      let e : map meant (drop (i + 1) now-cs) ≡ map meant (drop (i + 1) cs) = ap (map meant) rest_same in
      record {
        within = omega arith;
        untouched = kept ∙ rest_same;
        allowed = ap (leads_locked (is_open then)) (sym e) ∙ ap (λ (b : Bool). leads_locked b (map meant (drop (i + 1) now-cs))) o ∙ both.1;
        rules = ap (held_from (admitted (alphabet_in then)) (rules_in then)) (sym e) ∙ ap (λ (x : A). held_from (admitted x) (rules_in then) (map meant (drop (i + 1) now-cs))) a ∙ ap (λ x. held_from (admitted (alphabet_in here)) x (map meant (drop (i + 1) now-cs))) r ∙ sym (ap (held_from (admitted (alphabet_in here)) (rules_in here)) next) ∙ so.rules;
        alphabet = a ∙ so.alphabet;
        policy = p ∙ so.policy;
      }

module _ {A P S : Type 0} (admitted : A → ℕ → ℕ → Bool) (start here : Sheet A P) (cs now-cs : List (Made S)) (i : ℕ) (so : SoFar admitted start here cs now-cs i) (off : length cs ≤ i) where
  none_left : map meant (drop i cs) ≡ []
  none_left = ap (map meant) (drop_all i cs off)

  pub ended : rules_in here ≡ held_from (admitted (alphabet_in start)) (rules_in start) (map meant cs)
  ended = sym (ap (held_from (admitted (alphabet_in here)) (rules_in here)) none_left) ∙ so.rules

-- a turn of the loop that follows the state through the calls
module _ {S : Type 0} (cs : List (Made S)) (i : ℕ) (o whole : Bool) (same : leads_locked o (map meant (drop i cs)) ≡ whole) where
  module _ (c : Made S) (front : drop i cs ≡ c ∷ drop (i + 1) cs) where
    turn : (allows o (meant c) && leads_locked (open_then o (meant c)) (map meant (drop (i + 1) cs))) ≡ whole
    turn = sym (ap (λ (l : List (Made S)). leads_locked o (map meant l)) front) ∙ same

    pub turned : (next : Bool) → Some next ≡ cond (allows o (meant c)) (Some (open_then o (meant c))) None → leads_locked next (map meant (drop (i + 1) cs)) ≡ whole
    turned next e = ⊎_elim
        (λ t. ap (λ (b : Bool). leads_locked b (map meant (drop (i + 1) cs))) (same_Some _ _ (e ∙ cond-true _ _ _ t)) ∙ sym (ap (λ (b : Bool). b && leads_locked (open_then o (meant c)) (map meant (drop (i + 1) cs))) t) ∙ turn)
        (λ f. absurd (none-some next (sym (e ∙ cond-false _ _ _ f))))
        (cases_Bool (allows o (meant c)))
