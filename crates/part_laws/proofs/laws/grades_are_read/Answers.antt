use Rattle.part_laws.proofs.GradeRuns.{grades_are_read}
use Rattle.part_laws.proofs.laws.grades_are_read.Goals as goal

pub returns : goal.returns
returns c = grades_are_read
