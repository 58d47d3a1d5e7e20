use Rattle.flat_fine.proofs.PassLemmas.{executives_fine}
use Rattle.flat_fine.proofs.laws.executives_are_fine.Goals as goal

pub returns : goal.returns
returns c = executives_fine
