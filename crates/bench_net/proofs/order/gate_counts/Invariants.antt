use Rattle.bench_net.specs.Sorting.{AreCounts}
use Rattle.bench_net.proofs.order.gate_counts.Given as goal

abbrev pub invariant-loop-net : goal.invariant-loop-net
invariant-loop-net l = AreCounts l.fn.drivers l.left.items l.net
