use Rattle.flat_said.proofs.TextLemmas.{flat_lexemes}
use Rattle.flat_said.proofs.laws.lexemes_are_said.Goals as goal

pub returns : goal.returns
returns c = flat_lexemes
