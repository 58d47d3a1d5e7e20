use Rattle.flat_laws.proofs.LawLemmas.{faults_are_limits}
use Rattle.flat_laws.proofs.laws.faults_are_limits.Goals as goal

pub returns : goal.returns
returns c = faults_are_limits
