use Rattle.std.proofs.Common.{◌≡◌, ◌==◌, drop}
use Rattle.std.specs.List.{find}
use Rattle.lot_plan.proofs.bound_plan.stop_in.Given as goal

abbrev pub invariant-loop-stop : goal.invariant-loop-stop
invariant-loop-stop l = find (λ s. s.number == l.number) (drop l.stop-index l.stops) ≡ find (λ s. s.number == l.number) l.stops
