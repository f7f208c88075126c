use Rattle.std.proofs.Common.{◌≡◌, length, vec_items, refl, ◌∙◌, arith}
use Rattle.sheet.specs.Sheets.{holding}
use Rattle.sheet.proofs.ChangeFacts.{many_held, not_held, is_held, drop_answer_by, dropped_by, one_less}
use Rattle.sheet.proofs.sheet.OpenSheet.drop.Goals as goal

pub returns-then-place-len : goal.returns-then-place-len
returns-then-place-len g c =
    let many : length (holding c.args.self.now) ≡ c.len.result = many_held (vec_items c.args.self.now.kept.rules) c.len.result (c.len.ensures ∙ c.args.self.now.kept.rules.ok.0) in
    let met = not_held (holding c.args.self.now) c.args.place (omega arith) in
    record {
      answer = drop_answer_by (holding c.args.self.now) c.args.place _ met;
      after = dropped_by (holding c.args.self.now) c.args.place _ met _ refl;
      alphabet = refl;
      policy = refl;
    }

pub returns : goal.returns
returns g c =
    let many : length (holding c.args.self.now) ≡ c.len.result = many_held (vec_items c.args.self.now.kept.rules) c.len.result (c.len.ensures ∙ c.args.self.now.kept.rules.ok.0) in
    let met = is_held (holding c.args.self.now) c.args.place (omega arith) in
    record {
      answer = drop_answer_by (holding c.args.self.now) c.args.place _ met;
      after = dropped_by (holding c.args.self.now) c.args.place _ met _ (one_less (vec_items c.args.self.now.kept.rules) _ c.args.place c.remove.ensures.by_index.2);
      alphabet = refl;
      policy = refl;
    }
