use Rattle.die_sim.specs.Cells.{HaveRows, SamePins}
use Rattle.die_sim.proofs.cells.put_rows.Given as goal

abbrev pub invariant-loop-place : goal.invariant-loop-place
invariant-loop-place l = record {
  rows : HaveRows l.net l.fixed l.cells.items l.place;
  pins : SamePins l.fn.cells.items l.cells.items;
}
