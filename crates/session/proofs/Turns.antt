-- The lines in turn, as the loop takes them.
use Rattle.std.proofs.Common.{◌≡◌, ℕ, ◌≤◌, min, List, [], ◌∷◌, ◌++◌, length, take, sym, ap, ◌∙◌, subst, append_assoc, append-nil, arith, take_all}
use native.Mathlib.Decide.{dec_le}
use Rattle.session.specs.declared.line.State.{State}
use Rattle.session.specs.Served.{Appends, Answers, Session, session_ends, session_goes, start}

-- whatever the lines that are left print, comes behind what is printed
abbrev pub Goes_on : List (List ℕ) → State → List (List ℕ) → List ℕ → Type 0
Goes_on all s ls out = (q : List ℕ) → Session s ls q → Session start all (out ++ q)

pub cut : (l : List ℕ) (s n : ℕ) → s ≡ min (length l) n → take s l ≡ take n l
cut l s n e = by_cases (dec_le (length l) n)
  where
    by_cases : Dec (length l ≤ n) → take s l ≡ take n l
    by_cases (yes h) = take_all _ _ (omega arith) ∙ sym (take_all _ _ h)
    by_cases (no h) = ap (λ (k : ℕ). take k l) (omega arith)

pub again : {all ls rest : List (List ℕ)} {s t : State} {l out new : List ℕ} → Goes_on all s ls out → ls ≡ l ∷ rest → Appends (Answers s l t) out new → Goes_on all t rest new
again {all} {ls} {rest} {s} {t} {l} {out} {new} g e a q h =
    let P : List (List ℕ) → Type 0 = λ x. Session s x (a.printed ++ q) in
    let Q : List ℕ → Type 0 = λ x. Session start all x in
    let k = g (a.printed ++ q) (subst P (sym e) (session_goes a.allowed h)) in
    subst Q (sym (append_assoc out a.printed q) ∙ ap (λ (x : List ℕ). x ++ q) (sym a.appended)) k

pub done : {all ls : List (List ℕ)} {s : State} {out : List ℕ} → Goes_on all s ls out → ls ≡ [] → Session start all out
done {all} {ls} {s} {out} g e =
    subst (λ (x : List ℕ). Session start all x) (append-nil out) (g [] (subst (λ (x : List (List ℕ)). Session s x []) (sym e) session_ends))
