use Rattle.std.proofs.Common.{arith, length, ◌<◌}
use Rattle.code_listing.proofs.ListingLemmas.{few_instrs, instrs-more}
use Rattle.code_listing.proofs.check.instr_total.Goals as goal

pub loop-exec-preserved : goal.loop-exec-preserved
loop-exec-preserved c =
    let code = c.args.code.now in
    let within : c.loop-exec.exec < length code.execs = omega (arith, c.loop-exec-test.true, c.execs-exec-end.ensures) in
    let few = few_instrs code c.loop-exec.exec c.signals-conditions.ensures.conditions within in
    record {
      counted = omega (arith, c.loop-exec.invariant.counted, instrs-more code c.loop-exec.exec within, c.instrs.ensures, c.from-total.ensures);
      few = omega (arith, few, c.instrs.ensures, c.from-total.ensures, c.loop-exec.invariant.few);
    }
