use Rattle.part_laws.proofs.MergedLaws.{merged_is_one_text}
use Rattle.part_laws.proofs.laws.merged_is_one_text.Goals as goal

pub returns : goal.returns
returns g c = merged_is_one_text _
