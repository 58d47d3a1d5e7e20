use Rattle.part_laws.proofs.GradeRuns.{runs_of_grade_parts, runs_of_grade_are_one}
use Rattle.part_laws.proofs.laws.runs_of_grade_parts.Goals as goal

pub returns-clause-graded : goal.returns-clause-graded
returns-clause-graded c = runs_of_grade_parts

pub returns-clause-one : goal.returns-clause-one
returns-clause-one c = runs_of_grade_are_one
