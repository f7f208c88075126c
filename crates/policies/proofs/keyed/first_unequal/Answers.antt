use Rattle.std.proofs.Common.{Equal, sym, ap, ◌∙◌, subst, rules}
use Rattle.std.specs.Option.{unwrap_or}
use Rattle.std.specs.Ordering.{is_ne}
use Rattle.std.specs.Cmp.{nat_cmp_is}
use Rattle.std.proofs.lemmas.Iterator.{YieldsList-from_slice, YieldsList-from_zip, YieldsList-from_map}
use Rattle.std.proofs.lemmas.Iterator.Adapters.{option_map_id}
use Rattle.std.proofs.lemmas.Iterator.Consumers.{YieldsList-at}
use Rattle.std.proofs.lemmas.Iterator.Search.{find_from_yields_List}
use Rattle.policies.specs.Keys.{extent, keys, KeysCompare}
use Rattle.policies.proofs.Walks.{compared, walked}
use Rattle.policies.proofs.keyed.first_unequal.Goals as goal

pub returns : goal.returns
returns g c l =
    let key = g.K.Keyed.key c.args.keyed.now in
    let one = YieldsList-from_zip (YieldsList-at c.zip.ensures.first (YieldsList-from_slice c.args.rows.now cc)) (YieldsList-from_slice c.args.first.now cc) in
    let two = YieldsList-from_zip (YieldsList-at c.zip-2.ensures.first one) (YieldsList-from_slice c.args.second.now cc) in
    let e = find_from_yields_List is_ne c.find.new.self _ c.find.result c.find.ensures.ran
    (YieldsList-from_map _ (compared key) (YieldsList-at c.map.ensures.source two) c.map.ensures.closure (λ x r q k. (ap (λ z. record { 0 = z }) k.met.1, nat_cmp_is (key x.0.0.now.kind (extent x.0.1.now)) (key x.0.0.now.kind (extent x.1.now)) r (search rules))))
    (λ x b q k. search rules) in
    subst (KeysCompare (keys key c.args.rows.now c.args.first.now) (keys key c.args.rows.now c.args.second.now)) (sym (ap (λ z. unwrap_or z Equal) (sym (option_map_id c.find.result) ∙ e))) (walked key c.args.rows.now c.args.first.now c.args.second.now l)
