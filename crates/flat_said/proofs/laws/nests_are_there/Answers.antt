use Rattle.flat_said.proofs.TextLemmas.{nests_of}
use Rattle.flat_said.proofs.laws.nests_are_there.Goals as goal

pub returns : goal.returns
returns c = nests_of
