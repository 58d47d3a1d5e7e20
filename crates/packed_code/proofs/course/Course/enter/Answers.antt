use Rattle.std.proofs.Common.{arith}
use Rattle.packed_code.proofs.CourseLemmas.{enters}
use Rattle.packed_code.proofs.course.Course.enter.Goals as goal

pub overflow_sub-self : goal.overflow_sub-self
overflow_sub-self c = let into = enters c.requires.0 c.args.self.now c.args.times c.requires.1 in omega (arith, into.0)

pub bounds-self-self : goal.bounds-self-self
bounds-self-self c = let into = enters c.requires.0 c.args.self.now c.args.times c.requires.1 in omega (arith, into.1)

pub returns : goal.returns
returns c = λ code stands. (enters code c.args.self.now c.args.times stands).2
