use Rattle.std.proofs.Common.{◌≡◌, ℕ, Option, refl, ap, nat_cmp, rules}
use Rattle.std.specs.Option.{option_cmp}
use Rattle.std.proofs.lemmas.Iterator.{YieldsList-from_slice, YieldsList-from_zip, YieldsList-from_map}
use Rattle.std.proofs.lemmas.Iterator.Consumers.{YieldsList-at}
use Rattle.std.proofs.lemmas.Iterator.Search.{cmp_from_yields_List}
use Rattle.rules.specs.declared.row.Row.{Row}
use Rattle.cases.proofs.pick.compare_by.Goals as goal

pub returns : goal.returns
returns g c f k =
    let h = λ (p : Row × Option (ℕ × ℕ)). f p.0 p.1 in
    let one = YieldsList-from_zip (YieldsList-at c.zip.ensures.first (YieldsList-from_slice c.args.rows.now cc)) (YieldsList-from_slice c.args.first.now cc) in
    let two = YieldsList-from_zip (YieldsList-at c.zip-2.ensures.first (YieldsList-from_slice c.args.rows.now cc)) (YieldsList-from_slice c.args.second.now cc) in
    cmp_from_yields_List (λ x y. y ≡ x) c.map-second.result (option_cmp nat_cmp) c.cmp.result c.cmp.ensures.ran
    (YieldsList-from_map _ h (YieldsList-at c.map-first.ensures.source one) c.map-first.ensures.closure (λ x r q e. (ap (λ z. record { 0 = z }) e.met.1, k x.0 x.1 r (search rules))))
    (λ it e. YieldsList-at e (YieldsList-from_map _ h (YieldsList-at c.map-second.ensures.source two) c.map-second.ensures.closure (λ x r q e. (ap (λ z. record { 0 = z }) e.met.1, k x.0 x.1 r (search rules)))))
    (λ x y. refl)
