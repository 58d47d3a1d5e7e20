use Rattle.std.proofs.Common.{◌≡◌, ◌-◌, length}
use Rattle.signal_groups.specs.Marks.{AreMarked}
use Rattle.signal_groups.specs.Graph.{AreFound}
use Rattle.signal_groups.proofs.graph.walked.Given as goal

abbrev pub invariant-loop-at : goal.invariant-loop-at
invariant-loop-at l = record {
  marked : AreMarked l.order.items l.marks.items;
  count : length l.marks.items ≡ length l.fn.graph;
  found : AreFound l.fn.graph l.fn.from l.order.items l.at;
}

abbrev pub decreases-loop-at : goal.decreases-loop-at
decreases-loop-at l = length l.fn.graph - l.at
