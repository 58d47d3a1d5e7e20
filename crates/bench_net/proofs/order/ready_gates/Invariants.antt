use Rattle.bench_net.specs.Sorting.{AreReadyBelow}
use Rattle.bench_net.proofs.order.ready_gates.Given as goal

abbrev pub invariant-loop-net : goal.invariant-loop-net
invariant-loop-net l = AreReadyBelow l.fn.drivers l.fn.left l.order.items l.net
