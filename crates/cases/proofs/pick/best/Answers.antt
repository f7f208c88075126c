use Rattle.std.proofs.Common.{◌≡◌, ℕ, true, false, length, get_or, Vec, Global, Option, refl, ◌∙◌, arith}
use Rattle.cases.specs.Keys.{node_keys, over}
use Rattle.cases.proofs.Picks.{over_same, over_of, kept_more, kept_next, first_next, at_place, before_place}
use Rattle.cases.proofs.pick.best.Goals as goal
use Rattle.cases.proofs.pick.best.Goals.{then-outranks, else-outranks}

pub loop-at-init : goal.loop-at-init
loop-at-init c = record {
  within = omega arith;
  none = λ _. refl;
  kept = λ k d lt. let e : k ≡ 0 = omega arith in rw e (over_same c.args.opposite (node_keys c.args.keys c.args.rows.now (get_or c.args.all.now 0 d).items));
  first = λ n h k d lt. absurd (omega (arith, lt));
}

pub loop-at-preserved : goal.loop-at-preserved
loop-at-preserved c =
    let o = c.args.opposite in
    let ks = c.args.keys in
    let rs = c.args.rows.now in
    let all = c.args.all.now in
    let n = c.loop-at.at in
    let i = c.loop-at.best in
    let same = over_of o ks rs all n i (omega arith) (omega arith) c.index-all-at.result c.index-all-best.result c.index-all-at.is c.index-all-best.is in
    let told : over o (node_keys ks rs c.index-all-at.result.items) (node_keys ks rs c.index-all-best.result.items) ≡ c.outranks.result = cc (c.outranks.ensures, c.deref.ensures.value, c.deref-in-loop-at.ensures.value) in
    elim c.if-outranks.branch [
      | then-outranks w ↦
          let h = λ (d : Vec (Option (ℕ × ℕ)) Global). same d ∙ told ∙ w.if-outranks.true in
          rw w.best-is (record {
            within = omega arith;
            none = λ e. absurd (omega (arith, e));
            kept = kept_next o ks rs all n i c.loop-at.invariant.kept h;
            first = first_next o ks rs all n i (omega arith) (omega arith) c.loop-at.invariant.kept h;
          })
      | else-outranks w ↦
          rw w.best-is (record {
            within = omega arith;
            none = c.loop-at.invariant.none;
            kept = kept_more o ks rs all n i c.loop-at.invariant.kept (λ d. same d ∙ told ∙ w.if-outranks.false);
            first = c.loop-at.invariant.first;
          })
    ]

pub returns-clause-unsurpassed : goal.returns-clause-unsurpassed
returns-clause-unsurpassed c =
    at_place c.args.all.now c.loop-at.best (λ x r. over c.args.opposite (node_keys c.args.keys c.args.rows.now x.items) (node_keys c.args.keys c.args.rows.now r.items) ≡ false)
    (omega arith) (length c.args.all.now) (λ k d lt. c.loop-at.invariant.kept k d (omega (arith, lt)))

pub returns-clause-first : goal.returns-clause-first
returns-clause-first c n h =
    before_place c.args.all.now c.loop-at.best (λ x r. over c.args.opposite (node_keys c.args.keys c.args.rows.now r.items) (node_keys c.args.keys c.args.rows.now x.items) ≡ true)
    (λ k d lt. c.loop-at.invariant.first n h k d lt)
