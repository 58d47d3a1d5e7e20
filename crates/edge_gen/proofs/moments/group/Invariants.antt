use Rattle.std.proofs.Common.{◌≡◌, ◌++◌, length}
use Rattle.std.specs.List.Sorted.{IsNonDecreasingBy}
use Rattle.edge_gen.specs.Step.{grouped}
use Rattle.edge_gen.proofs.moments.group.Given as goal

-- the moments so far, and those of the rest, are all
abbrev pub invariant-loop-first : goal.invariant-loop-first
invariant-loop-first l =
    (l.moments.items ++ grouped l.start l.rest ≡ grouped l.start l.events) × IsNonDecreasingBy (λ event. event.time) l.rest

abbrev pub decreases-loop-first : goal.decreases-loop-first
decreases-loop-first l = length l.rest
