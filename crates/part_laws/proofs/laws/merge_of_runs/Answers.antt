use Rattle.part_laws.proofs.MergeWritten.{merge_writes_uncut_text, merge_writes_quiet_text}
use Rattle.part_laws.proofs.laws.merge_of_runs.Goals as goal

pub returns-clause-uncut : goal.returns-clause-uncut
returns-clause-uncut g c = merge_writes_uncut_text _

pub returns-clause-quiet : goal.returns-clause-quiet
returns-clause-quiet g c = merge_writes_quiet_text _
