use Rattle.std.proofs.Common.{subst}
use Rattle.packed_code.specs.Course.{StandsAt}
use Rattle.packed_code.proofs.CourseLemmas.{is_over}
use Rattle.packed_code.proofs.course.Course.step.Goals as goal

pub returns-in-Done : goal.returns-in-Done
returns-in-Done c = λ code stands. is_over code c.args.self.now (subst (StandsAt code c.args.self.now) c.in-Done.is stands)
