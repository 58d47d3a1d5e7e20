use Rattle.std.proofs.Common.{◌≡◌, take}
use Rattle.std.specs.Prelude.{count_by}
use Rattle.bench_net.specs.Wiring.{gate_at}
use Rattle.bench_net.proofs.order.gates_among.Given as goal

abbrev pub invariant-loop-net : goal.invariant-loop-net
invariant-loop-net l = l.count ≡ count_by (gate_at l.fn.drivers) (take l.net-index l.nets)
