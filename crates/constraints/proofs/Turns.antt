-- The lines in turn, as the loop takes them.
use Rattle.std.proofs.Common.{◌≡◌, ℕ, List, [], ◌∷◌, ◌++◌, sym, ap, ◌∙◌, subst, append_assoc, append-nil}
use Rattle.policies.specs.declared.named.NamedPolicy.{NamedPolicy}
use Rattle.policies.specs.declared.named.NamedPolicy.TheVariants.{Posix}
use Rattle.sheet.specs.Changes.{Rules}
use Rattle.session.specs.declared.line.State.{State}
use Rattle.session.specs.declared.line.State.TheVariants.{Awaiting}
use Rattle.session.specs.Lines.{lines}
use Rattle.session.specs.Served.{Appends}
use Rattle.constraints.specs.Served.{Answers, Session, session_ends, session_goes, FileSession}

-- whatever the lines that are left print, comes behind what is printed; the bench keeps its length
pub record Goes_on (all : List (List ℕ)) (s : State) (q : NamedPolicy) (rules : Rules) (ls : List (List ℕ)) (bench : ℕ) (out : List ℕ) : Type 0 where
  pub wide : bench ≡ 65536
  pub whole : (more : List ℕ) → Session 65536 s q rules ls more → FileSession all (out ++ more)

pub begin : {input rest out : List ℕ} {bench : ℕ} {q : NamedPolicy} {rules : Rules} → rest ≡ input → out ≡ [] → bench ≡ 65536 → rules ≡ [] → q ≡ Posix → Goes_on (lines input) Awaiting q rules (lines rest) bench out
begin {input} {rest} {out} {bench} {q} {rules} e f b g p = record {
  wide = b;
  whole = λ more h.
      subst (λ (x : List ℕ). FileSession (lines input) (x ++ more)) (sym f)
      (subst (λ (x : List ℕ). FileSession (lines x) more) e
      (subst (λ (x : NamedPolicy). Session 65536 Awaiting x [] (lines rest) more) p
      (subst (λ (x : Rules). Session 65536 Awaiting q x (lines rest) more) g h)));
}

pub again : {all ls rest : List (List ℕ)} {s s' : State} {q q' : NamedPolicy} {rules rules' : Rules} {bench lent : ℕ} {l out new : List ℕ}
    → Goes_on all s q rules ls bench out → ls ≡ l ∷ rest → lent ≡ bench → Appends (Answers lent s q rules l s' q' rules') out new → Goes_on all s' q' rules' rest bench new
again {all} {ls} {rest} {s} {s'} {q} {q'} {rules} {rules'} {bench} {lent} {l} {out} {new} g e b a = record {
  wide = g.wide;
  whole = λ more h.
      let answers = subst (λ (n : ℕ). Answers n s q rules l s' q' rules' a.printed) (b ∙ g.wide) a.allowed in
      let k = g.whole (a.printed ++ more) (subst (λ (x : List (List ℕ)). Session 65536 s q rules x (a.printed ++ more)) (sym e) (session_goes answers h)) in
      subst (λ (x : List ℕ). FileSession all x) (sym (append_assoc out a.printed more) ∙ ap (λ (x : List ℕ). x ++ more) (sym a.appended)) k;
}

pub done : {all ls : List (List ℕ)} {s : State} {q : NamedPolicy} {rules : Rules} {bench : ℕ} {out : List ℕ} → Goes_on all s q rules ls bench out → ls ≡ [] → FileSession all out
done {all} {ls} {s} {q} {rules} {bench} {out} g e =
    subst (λ (x : List ℕ). FileSession all x) (append-nil out) (g.whole [] (subst (λ (x : List (List ℕ)). Session 65536 s q rules x []) (sym e) session_ends))
