use Rattle.std.proofs.Common.{arith}
use Rattle.packed_code.proofs.CourseLemmas.{leaves_run, gives_cycle}
use Rattle.packed_code.proofs.course.Course.run.Goals as goal

pub returns-then-self-times : goal.returns-then-self-times
returns-then-self-times c = λ code stands.
    leaves_run code c.args.self.now c.args.entry.table c.args.entry.row c.args.entry.mark c.args.times stands c.if-self-times.true

pub overflow_add-self-2 : goal.overflow_add-self-2
overflow_add-self-2 c =
    let gives = gives_cycle c.requires.0 c.args.self.now c.args.entry.table c.args.entry.row c.args.entry.mark c.args.times
    c.requires.1 c.if-self-times.false in
    omega (arith, gives.0)

pub returns : goal.returns
returns c = λ code stands.
    (gives_cycle code c.args.self.now c.args.entry.table c.args.entry.row c.args.entry.mark c.args.times stands c.if-self-times.false).1
