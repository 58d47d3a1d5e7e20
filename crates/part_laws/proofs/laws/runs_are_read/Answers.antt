use Rattle.part_laws.proofs.RunsRead.{runs_are_read}
use Rattle.part_laws.proofs.laws.runs_are_read.Goals as goal

pub returns : goal.returns
returns g c = runs_are_read _
