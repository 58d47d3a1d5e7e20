use Rattle.std.proofs.Common.{arith, length, ◌<◌}
use Rattle.code_listing.proofs.ListingLemmas.{few_cycles, cycles-more}
use Rattle.code_listing.proofs.check.cycle_total.Goals as goal

pub overflow_add-total : goal.overflow_add-total
overflow_add-total c =
    let code = c.args.code.now in
    let within : c.loop-exec.exec < length code.execs = omega (arith, c.loop-exec-test.true, c.execs-exec-end.ensures) in
    let few = few_cycles code c.loop-exec.exec c.signals-conditions.ensures.conditions within in
    record { fits = omega (arith, few, c.cycles-total.ensures, c.loop-exec.invariant.few, within, c.signals-conditions.ensures.conditions.few_execs) }

pub loop-exec-preserved : goal.loop-exec-preserved
loop-exec-preserved c =
    let code = c.args.code.now in
    let within : c.loop-exec.exec < length code.execs = omega (arith, c.loop-exec-test.true, c.execs-exec-end.ensures) in
    let few = few_cycles code c.loop-exec.exec c.signals-conditions.ensures.conditions within in
    record {
      counted = omega (arith, c.loop-exec.invariant.counted, cycles-more code c.loop-exec.exec within, c.cycles-total.ensures);
      few = omega (arith, few, c.cycles-total.ensures, c.loop-exec.invariant.few);
    }
