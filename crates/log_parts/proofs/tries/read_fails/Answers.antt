use Rattle.std.proofs.Common.{refl}
use Rattle.log_parts.proofs.ReadTryLemmas.{fails_more}
use Rattle.log_parts.proofs.tries.read_fails.Goals as goal

pub loop-preserved : goal.loop-preserved
loop-preserved c =
    let so_far = c.loop.invariant in
    let one = c.loop-test.ensures.read refl in
    fails_more c.args.lines.now c.loop.lines c.read_fail.new.lines so_far.0 one.0 so_far.1 one.1 so_far.2 one.2
