-- The parts of a rule's tree, and the trees that stand for them on a stack. Assumes nothing.
use Rattle.std.specs.Prelude.{List, [], ◌∷◌, map, reverse}
use Rattle.rules.specs.Trees.{empty, leaf, choice, sequence, star}
use Rattle.rules.specs.Trees as rule
use Rattle.cases.specs.Names.{ruled}
use Rattle.cases.specs.declared.tree.Tree.{Tree}

-- the parts of a tree, in order
abbrev pub parts : rule.Tree → List rule.Tree
parts empty = []
parts (leaf lo hi) = []
parts (choice p q) = p ∷ q ∷ []
parts (sequence p q) = p ∷ q ∷ []
parts (star p) = p ∷ []

-- the rule's trees of a stack, the last pushed first
abbrev pub stacked : List Tree → List rule.Tree
stacked ts = reverse (map ruled ts)
