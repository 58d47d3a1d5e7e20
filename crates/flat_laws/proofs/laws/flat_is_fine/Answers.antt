use Rattle.flat_laws.proofs.FineLemmas.{flat_is_fine}
use Rattle.flat_laws.proofs.laws.flat_is_fine.Goals as goal

pub returns : goal.returns
returns c = flat_is_fine
