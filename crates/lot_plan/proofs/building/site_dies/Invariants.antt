use Rattle.std.proofs.Common.{◌≡◌, ◌<◌, ℕ, length, map, get_or}
use Rattle.std.specs.Arc.{arc_value}
use Rattle.lot_plan.specs.Building.{circuit_no, binding_no, IsBuilt}
use Rattle.lot_plan.specs.Groups.{rows_of}
use Rattle.lot_plan.specs.Stored.{no_die}
use Rattle.lot_plan.proofs.building.site_dies.Given as goal

abbrev pub invariant-loop-group : goal.invariant-loop-group
invariant-loop-group l = record {
  count : length l.dies.items ≡ l.group-index;
  each : (d : ℕ) → d < l.group-index
      → IsBuilt (circuit_no (map arc_value l.nets) (rows_of l.site d).file)
      (binding_no (map arc_value l.bindings) (rows_of l.site d).file) l.tries
      (rows_of l.site d) (get_or l.dies.items d no_die);
}
