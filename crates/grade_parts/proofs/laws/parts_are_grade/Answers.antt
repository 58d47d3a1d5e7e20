use Rattle.grade_parts.proofs.PartLemmas.{merged_is_whole}
use Rattle.grade_parts.proofs.laws.parts_are_grade.Goals as goal

pub returns : goal.returns
returns c = λ names plan parts first later plain some are. merged_is_whole names plan parts first later plain some are
