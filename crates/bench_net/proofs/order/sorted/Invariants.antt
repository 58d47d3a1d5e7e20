use Rattle.std.proofs.Common.{◌+◌, ◌-◌, length, take, []}
use Rattle.std.specs.Prelude.{sum}
use Rattle.bench_net.proofs.WalkLemmas.{Walk}
use Rattle.bench_net.proofs.order.sorted.Given as goal

abbrev pub invariant-loop-at : goal.invariant-loop-at
invariant-loop-at l = Walk l.fn.drivers l.left.items l.order.items (take l.at l.order.items) []

abbrev pub decreases-loop-at : goal.decreases-loop-at
decreases-loop-at l = sum l.left.items + length l.order.items - l.at
