use Rattle.std.proofs.Common.{take}
use Rattle.std.specs.Arc.{arc_value}
use Rattle.die_sim.specs.Settling.{AreNets, RefreshesNets}
use Rattle.die_sim.specs.Walk.{HaveDriven}
use Rattle.die_sim.proofs.settle.refresh_driven.Given as goal

abbrev pub invariant-loop-signal : goal.invariant-loop-signal
invariant-loop-signal l = record {
  refreshes : RefreshesNets l.wiring l.held l.fn.nets l.nets;
  driven : HaveDriven l.wiring.fixed.items l.held l.nets.levels.items (arc_value l.wiring.bind).nets (take l.signal-index l.drives);
  nets : AreNets l.wiring l.held l.nets;
}
