use Rattle.std.proofs.Common.{◌≡◌, ◌≤◌, take}
use Rattle.std.specs.List.{flat_map}
use Rattle.tester_types.specs.Outside.{gained}
use Rattle.grade_listing.specs.GradeText.{fault_line}
use Rattle.grade_listing.proofs.listing.put_faults.Given as goal

abbrev pub invariant-loop-graded : goal.invariant-loop-graded
invariant-loop-graded g l = record {
  held : g.K.Sink.told l.sink ≡ gained (g.K.Sink.told l.fn.sink) (flat_map (fault_line l.net.net.names) (take l.graded-index l.faults));
  count : g.K.Sink.faults l.fn.sink ≤ g.K.Sink.faults l.sink;
}
