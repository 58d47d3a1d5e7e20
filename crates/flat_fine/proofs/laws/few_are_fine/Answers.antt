use Rattle.flat_fine.proofs.PassLemmas.{few_are_fine}
use Rattle.flat_fine.proofs.laws.few_are_fine.Goals as goal

pub returns : goal.returns
returns c = few_are_fine
