use Rattle.packed_code.specs.Cycles.{exec_of}
use Rattle.packed_code.proofs.WalkLemmas.{begins_over, exec_is}
use Rattle.packed_code.proofs.walker.Walk.begun.Goals as goal

pub returns-clause-over : goal.returns-clause-over
returns-clause-over c =
    let instrs = (exec_of c.args.code.now c.args.exec).instrs in
    begins_over c.args.code.now c.args.exec c.new.result c.signals-conditions.ensures.conditions c.requires
    (c.new.ensures.on instrs (exec_is c.args.code.now c.args.exec c.signals-conditions.ensures.conditions c.requires).whole.rest)
    (c.new.ensures.coming instrs)
