use Rattle.flat_fine.proofs.NameLemmas.{names_fine}
use Rattle.flat_fine.proofs.laws.names_are_fine.Goals as goal

pub returns : goal.returns
returns c = names_fine
