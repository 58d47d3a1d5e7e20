use Rattle.std.proofs.Common.{◌≡◌, ◌<◌, ◌-◌, true, length, get_or}
use Rattle.die_sim.specs.Pending.{is_pending}
use Rattle.die_sim.specs.Settling.{circuit_of, drivers_of, AreNets}
use Rattle.die_sim.specs.Walk.{WalkedTo}
use Rattle.die_sim.proofs.settle.walk.Given as goal

abbrev pub invariant-loop-place : goal.invariant-loop-place
invariant-loop-place l = record {
  walked : WalkedTo (drivers_of l.wiring) l.wiring.fixed.items l.held (circuit_of l.wiring).order l.fn.nets.levels.items l.nets.levels.items l.fn.nets.pending l.nets.pending l.place l.count;
  active : l.place < length (circuit_of l.wiring).order → is_pending l.nets.pending (get_or (circuit_of l.wiring).order l.place 0) ≡ true;
  nets : AreNets l.wiring l.held l.nets;
}

abbrev pub decreases-loop-place : goal.decreases-loop-place
decreases-loop-place l = length (circuit_of l.wiring).order - l.place
