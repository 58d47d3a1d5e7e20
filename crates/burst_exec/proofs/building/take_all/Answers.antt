use Rattle.std.proofs.Common.{length, ap, arith}
use Rattle.stil_ast.specs.declared.blocks.Blocks.{Blocks}
use Rattle.burst_exec.proofs.GatherLemmas.{is_done}
use Rattle.burst_exec.proofs.building.take_all.Goals as goal

pub loop-exec-init : goal.loop-exec-init
loop-exec-init c = (c.requires.carried, c.requires.none)

pub take_next-requires-clause-carried : goal.take_next-requires-clause-carried
take_next-requires-clause-carried c = c.loop-exec.invariant.0

pub take_next-requires-clause-so_far : goal.take_next-requires-clause-so_far
take_next-requires-clause-so_far c = c.loop-exec.invariant.1

pub loop-exec-preserved : goal.loop-exec-preserved
loop-exec-preserved c = (c.in-Ok.ensures.carried, c.in-Ok.ensures.takes)

pub returns : goal.returns
returns c =
    let all = ap (λ (b : Blocks). length b.executives) c.blocks-2.ensures in
    is_done c.args.names.now c.loop-exec.exec c.loop-exec.progress c.loop-exec.execs.items
    (omega (arith, c.loop-exec-test.false, c.loop-exec.auto.exec-end, c.len-exec-end.ensures, all)) c.loop-exec.invariant.1
