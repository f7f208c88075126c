use Rattle.std.proofs.Common.{List, map, None, subst, rules, tests}
use Rattle.std.proofs.lemmas.Iterator.{IsFirst-from_position, YieldsList-from_slice}
use Rattle.std.specs.Option.{ok_or}
use Rattle.rules.specs.declared.denial.Denial.TheVariants.{NotRead}
use Rattle.rules.specs.Languages.{seen}
use Rattle.sheet.specs.declared.held.Held.{Held}
use Rattle.sheet.specs.Questions.{Governed}
use Rattle.sheet.specs.Sheets.{held_rows}
use Rattle.sheet.proofs.Governing.{Reads, Unread, governed}
use Rattle.sheet.proofs.sheet.LockedSheet.first_reading.Goals as goal

pub returns : goal.returns
returns g c =
    let w = seen (g.A.Alphabet.held c.args.self.now.kept.alphabet) c.args.name.now in
    let first = IsFirst-from_position _ _ c.position.result (Reads w) (Unread w) c.position.ensures.ran (YieldsList-from_slice _ c.iter.ensures.rest) (λ x q k. search (rules, tests)) (λ x q k. search (rules, tests)) in
    let P : List Held → Type 0 = λ hs. Governed None (map held_rows hs) w (ok_or c.position.result NotRead) in
    subst P c.deref.ensures.value (governed w c.deref.result.now c.position.result first)
