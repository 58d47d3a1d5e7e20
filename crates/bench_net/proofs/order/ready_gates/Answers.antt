use Rattle.bench_net.proofs.SortLemmas.{AreReadyBelow-more}
use Rattle.bench_net.proofs.order.ready_gates.Goals as goal

pub loop-net-preserved : goal.loop-net-preserved
loop-net-preserved c = AreReadyBelow-more c.args.drivers.now c.args.left.now c.loop-net.order.items c.add_ready.new.order.items c.loop-net.net c.loop-net.invariant c.in_ok-add_ready.ensures
