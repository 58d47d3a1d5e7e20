use Rattle.flat_said.proofs.FaultLemmas.{flat_refused}
use Rattle.flat_said.proofs.laws.deep_is_refused.Goals as goal

pub returns : goal.returns
returns c = flat_refused
