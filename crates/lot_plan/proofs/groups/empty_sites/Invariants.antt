use Rattle.std.proofs.Common.{◌≡◌, List, [], replicate}
use Rattle.lot_plan.specs.Groups.{DieRows}
use Rattle.lot_plan.proofs.groups.empty_sites.Given as goal

abbrev pub invariant-loop : goal.invariant-loop
invariant-loop l = l.made.items ≡ replicate {A = List DieRows} l.counter []
