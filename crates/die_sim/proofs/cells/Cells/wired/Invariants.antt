use Rattle.std.proofs.Common.{◌≤◌, ◌*◌, length}
use Rattle.text_bytes.specs.Limits.{most_inputs}
use Rattle.die_sim.specs.Cells.{AreWiredTo}
use Rattle.die_sim.proofs.cells.Cells.wired.Given as goal

abbrev pub invariant-loop-gate : goal.invariant-loop-gate
invariant-loop-gate l = record {
  wired : AreWiredTo l.net l.cells.items l.pins.items l.gate-index;
  few : length l.pins.items ≤ most_inputs * l.gate-index;
}
