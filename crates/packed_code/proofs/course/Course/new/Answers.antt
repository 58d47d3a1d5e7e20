use Rattle.std.proofs.Common.{refl}
use Rattle.packed_code.proofs.CourseLemmas.{starts_on, starts_with}
use Rattle.packed_code.proofs.course.Course.new.Goals as goal

pub returns-clause-on : goal.returns-clause-on
returns-clause-on c = λ code rest. starts_on code _ refl rest

pub returns-clause-coming : goal.returns-clause-coming
returns-clause-coming c = λ code. starts_with code
