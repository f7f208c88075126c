-- The keys and the orders of the two policies that can be named. Assumes nothing.
use Rattle.policies.specs.declared.named.NamedPolicy.{NamedPolicy}
use Rattle.policies.specs.declared.named.NamedPolicy.TheVariants.{Posix, FirstLongest}
use Rattle.policies.specs.Orders.{Order}
use Rattle.policies.specs.Keys.{Key, above_by, posix_key, first_key}

abbrev pub named_key : NamedPolicy → Key
named_key Posix = posix_key
named_key FirstLongest = first_key

abbrev pub named_above : NamedPolicy → Order
named_above p = above_by (named_key p)
