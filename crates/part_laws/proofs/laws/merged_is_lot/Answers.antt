use Rattle.part_laws.proofs.MergedLaws.{merged_is_lot}
use Rattle.part_laws.proofs.laws.merged_is_lot.Goals as goal

pub returns : goal.returns
returns g c = merged_is_lot _
