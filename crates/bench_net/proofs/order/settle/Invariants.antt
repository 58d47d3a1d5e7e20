use Rattle.std.proofs.Common.{◌≡◌, length}
use Rattle.bench_net.specs.Sorting.{CanSettle, walked}
use Rattle.bench_net.proofs.order.settle.Given as goal

abbrev pub invariant-loop-rest : goal.invariant-loop-rest
invariant-loop-rest l = record {
  can : CanSettle l.left.items l.rest;
  walk : walked l.left.items l.order.items l.rest
      ≡ walked l.fn.left.items l.fn.order.items l.fn.gates;
}

abbrev pub decreases-loop-rest : goal.decreases-loop-rest
decreases-loop-rest l = length l.rest
