-- The name that is read, as the leaves see it.
use Rattle.std.proofs.Common.{◌≡◌, length, ◌∙◌}
use Rattle.std.proofs.lemmas.List.{length-map}
use Rattle.rules.specs.declared.alphabet.Alphabet.{Ghosts}
use Rattle.rules.specs.Languages.{Sight}
use Rattle.matcher.specs.declared.search.Search.{Search}
use Rattle.matcher.specs.Searches.{word}

pub word_long : {A P S : Type 0} {g : Ghosts A S} (s : Search A P S g) → length (word s) ≡ s.frame.symbols
word_long {g = g} s = length-map {B = Sight} s.name.now (λ x lo hi. g.held s.alphabet.now lo hi x) ∙ s.long
