use Rattle.part_laws.proofs.GradeRuns.{merge_grade_writes_grade}
use Rattle.part_laws.proofs.laws.merge_grade_of_runs.Goals as goal

pub returns : goal.returns
returns c = merge_grade_writes_grade
