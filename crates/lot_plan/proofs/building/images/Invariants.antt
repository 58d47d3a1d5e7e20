use Rattle.std.specs.Arc.{arc_value}
use Rattle.lot_plan.specs.Building.{AreImages}
use Rattle.lot_plan.proofs.building.images.Given as goal

abbrev pub invariant-loop-before : goal.invariant-loop-before
invariant-loop-before l = AreImages (arc_value l.net) (arc_value l.bind) l.faults l.before l.images.items
