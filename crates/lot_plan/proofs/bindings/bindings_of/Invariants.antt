use Rattle.std.proofs.Common.{◌≡◌, ◌++◌, map, drop}
use Rattle.std.specs.Prelude.{All}
use Rattle.std.specs.Arc.{arc_value}
use Rattle.bench_net.specs.Circuit.{IsWhole}
use Rattle.lot_plan.specs.Refusal.{first_unbound, binding_by}
use Rattle.lot_plan.specs.Views.{needed_by}
use Rattle.lot_plan.proofs.bindings.bindings_of.Given as goal

abbrev pub invariant-loop-net : goal.invariant-loop-net
invariant-loop-net l = record {
  whole : All IsWhole (map arc_value (drop l.net-index l.nets)) → All IsWhole (map arc_value l.nets);
  bound : first_unbound (map needed_by l.pins) (map arc_value (drop l.net-index l.nets)) ≡ first_unbound (map needed_by l.pins)
      (map arc_value l.nets);
  each : map arc_value l.bindings.items ++ map (binding_by l.clock (map needed_by l.pins))
      (map arc_value (drop l.net-index l.nets))
      ≡ map (binding_by l.clock (map needed_by l.pins)) (map arc_value l.nets);
}
