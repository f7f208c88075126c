use Rattle.std.proofs.Common.{◌≡◌, ℕ, ◌+◌, length}
use Rattle.cases.specs.Sizes.{EachHas}
use Rattle.cases.proofs.lister.Found.add_each.Given as goal

abbrev pub invariant-loop-right : goal.invariant-loop-right
invariant-loop-right l = (m n : ℕ) → n ≡ 1 + length l.left + m → EachHas m l.rights → EachHas n l.initial.self.all.items → EachHas n l.self.all.items
