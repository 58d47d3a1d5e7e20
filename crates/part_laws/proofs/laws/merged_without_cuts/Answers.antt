use Rattle.part_laws.proofs.MergedLaws.{merged_is_uncut_text, merged_is_quiet_text}
use Rattle.part_laws.proofs.laws.merged_without_cuts.Goals as goal

pub returns-clause-uncut : goal.returns-clause-uncut
returns-clause-uncut g c = merged_is_uncut_text _

pub returns-clause-quiet : goal.returns-clause-quiet
returns-clause-quiet g c = merged_is_quiet_text _
