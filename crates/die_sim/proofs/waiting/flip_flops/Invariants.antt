use Rattle.std.proofs.Common.{◌≤◌, length}
use Rattle.die_sim.specs.Walk.{AreFlipFlops}
use Rattle.die_sim.proofs.waiting.flip_flops.Given as goal

abbrev pub invariant-loop-n : goal.invariant-loop-n
invariant-loop-n l = record {
  all : AreFlipFlops l.net.net.drivers l.list.items l.n;
  few : length l.list.items ≤ l.n;
}
