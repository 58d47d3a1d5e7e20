use Rattle.std.proofs.Common.{◌≡◌, map, drop}
use Rattle.signal_groups.specs.Graph.{kind_at, faults_from}
use Rattle.signal_groups.specs.Located.{group_at}
use Rattle.signal_groups.proofs.refuse.first_refused.Given as goal

abbrev pub invariant-loop-place : goal.invariant-loop-place
invariant-loop-place l =
    faults_from (kind_at l.fn.kinds l.fn.graph) l.place (map group_at (drop l.place l.groups))
    ≡ faults_from (kind_at l.fn.kinds l.fn.graph) 0 (map group_at l.groups)
