use Rattle.std.proofs.Common.{◌≡◌, ◌++◌, drop}
use Rattle.lot_plan.specs.Bound.{active_at}
use Rattle.lot_plan.proofs.building.active_at.Given as goal

abbrev pub invariant-loop-fault : goal.invariant-loop-fault
invariant-loop-fault l = l.active.items ++ active_at l.number (drop l.fault-index l.faults) ≡ active_at l.number l.faults
