use Rattle.std.proofs.Common.{◌≡◌, ℕ, ◌-◌, List, length, take, drop, min, Equal, Ordering, ap, ◌∙◌, subst}
use Rattle.std.proofs.lemmas.List.{drop_min, take_rest}
use Rattle.rules.specs.declared.row.Row.{Row}
use Rattle.rules.specs.Readings.{Reading}
use Rattle.policies.specs.Orders.{Ranks}
use Rattle.policies.specs.Keys.{Key, Faithful, keys, above_by, KeysCompare}
use Rattle.policies.proofs.Answered.{ranks}
use Rattle.policies.proofs.keyed.rank_by_keys.Goals as goal

-- where the rows from the node on, as far as there are any, were gone through
from_node : {key : Key} → Faithful key → (rs : List Row) (n k : ℕ) (x y : Reading) (o : Ordering) → k ≡ min n (length rs)
    → (length x ≡ length y → KeysCompare (keys key (take (length rs - k) (drop k rs)) x) (keys key (take (length rs - k) (drop k rs)) y) o) → Ranks (above_by key) rs n x y o
from_node {key} f rs n k x y o e h =
    let behind : take (length rs - k) (drop k rs) ≡ drop n rs = take_rest rs k ∙ ap (λ m. drop m rs) e ∙ drop_min n rs in
    ranks f rs n x y o (λ l. subst (λ (z : List Row). KeysCompare (keys key z x) (keys key z y) o) behind (h l))

pub returns-in-Some : goal.returns-in-Some
returns-in-Some g c = from_node (g.met.K.Keyed.faithful c.args.keyed.now) c.args.rows.now c.args.node c.min-from.result c.args.first.now c.args.second.now c.in-Some.order c.min-from.ensures c.in-Some.ensures

pub returns-in-None : goal.returns-in-None
returns-in-None g c = from_node (g.met.K.Keyed.faithful c.args.keyed.now) c.args.rows.now c.args.node c.min-from.result c.args.first.now c.args.second.now Equal c.min-from.ensures c.in-None.ensures
