use Rattle.std.proofs.Common.{replicate, sym, refl, ◌∙◌, subst}
use Rattle.rules.specs.RuleRows.{Ruled}
use Rattle.positions.proofs.Computing.{placed_whole, few_whole, sets_whole}
use Rattle.positions.proofs.sets.Positions.of.Goals as goal

pub visit-whole-requires : goal.visit-whole-requires
visit-whole-requires c = placed_whole c.rows-rows.result.now (subst Ruled (sym c.rows-rows.ensures.value) c.rows-rows.ensures.ruled)

pub invariant_of-result : goal.invariant_of-result
invariant_of-result c = record {
  few = few_whole c.rows-rows.result.now (replicate 32 0) c.visit-whole.new.follow c.visit-whole.result
      (subst Ruled (sym c.rows-rows.ensures.value) c.rows-rows.ensures.ruled) c.visit-whole.ensures;
}

pub returns : goal.returns
returns c t e =
    let here = c.rows-rows.ensures.value ∙ e in
    sets_whole c.rows-rows.result.now t _ c.visit-whole.result refl refl refl refl here c.visit-whole.ensures (c.leaves_of-leaves.ensures t here)
