use Rattle.std.proofs.Common.{◌≡◌, ℕ, ◌+◌}
use Rattle.cases.specs.Sizes.{EachHas}
use Rattle.cases.proofs.lister.Found.add_all.Given as goal

abbrev pub invariant-loop-left : goal.invariant-loop-left
invariant-loop-left l = (k m n : ℕ) → n ≡ 1 + k + m → EachHas k l.lefts → EachHas m l.rights → EachHas n l.initial.self.all.items → EachHas n l.self.all.items
