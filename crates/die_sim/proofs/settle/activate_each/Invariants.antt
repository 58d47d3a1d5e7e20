use Rattle.std.proofs.Common.{take}
use Rattle.die_sim.specs.Pending.{ActivatesEach}
use Rattle.die_sim.proofs.settle.activate_each.Given as goal

abbrev pub invariant-loop-net : goal.invariant-loop-net
invariant-loop-net l = ActivatesEach (take l.net-index l.nets) l.fn.pending l.pending
