use Rattle.std.proofs.Common.{take}
use Rattle.die_sim.specs.Settling.{AreNets, RefreshesNets}
use Rattle.die_sim.specs.Walk.{HaveLevels}
use Rattle.die_sim.proofs.settle.refresh_each.Given as goal

abbrev pub invariant-loop-n : goal.invariant-loop-n
invariant-loop-n l = record {
  refreshes : RefreshesNets l.wiring l.held l.fn.nets l.nets;
  each : HaveLevels l.wiring.fixed.items l.held l.nets.levels.items (take l.n-index l.list);
  nets : AreNets l.wiring l.held l.nets;
}
