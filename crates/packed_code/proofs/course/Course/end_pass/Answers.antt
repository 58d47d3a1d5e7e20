use Rattle.std.proofs.Common.{arith}
use Rattle.packed_code.proofs.CourseLemmas.{is_open, leaves_loop, begins_pass}
use Rattle.packed_code.proofs.course.Course.end_pass.Goals as goal

pub overflow_sub-innermost : goal.overflow_sub-innermost
overflow_sub-innermost c = let open_one = is_open c.requires.0 c.args.self.now c.requires.1 in omega (arith, open_one.0)

pub overflow_sub-self : goal.overflow_sub-self
overflow_sub-self c = let open_one = is_open c.requires.0 c.args.self.now c.requires.1 in omega (arith, open_one.0)

pub returns-then-innermost-eq0 : goal.returns-then-innermost-eq0
returns-then-innermost-eq0 c = λ code stands. leaves_loop code c.args.self.now stands c.if-innermost-eq0.true

pub overflow_sub-self-3 : goal.overflow_sub-self-3
overflow_sub-self-3 c = let open_one = is_open c.requires.0 c.args.self.now c.requires.1 in omega (arith, open_one.0)

pub returns : goal.returns
returns c = λ code stands. begins_pass code c.args.self.now stands c.if-innermost-eq0.false
