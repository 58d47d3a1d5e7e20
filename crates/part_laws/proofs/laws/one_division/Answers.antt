use Rattle.part_laws.proofs.MergedLaws.{one_division, one_quiet_division}
use Rattle.part_laws.proofs.laws.one_division.Goals as goal

pub returns-clause-uncut : goal.returns-clause-uncut
returns-clause-uncut g c = one_division _

pub returns-clause-quiet : goal.returns-clause-quiet
returns-clause-quiet g c = one_quiet_division _
