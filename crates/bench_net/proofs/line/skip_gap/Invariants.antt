use Rattle.std.proofs.Common.{◌≡◌, length}
use Rattle.bench_net.specs.Step.{skipped}
use Rattle.bench_net.proofs.line.skip_gap.Given as goal

abbrev pub invariant-loop-rest : goal.invariant-loop-rest
invariant-loop-rest l = skipped l.rest ≡ skipped l.fn.text

abbrev pub decreases-loop-rest : goal.decreases-loop-rest
decreases-loop-rest l = length l.rest
