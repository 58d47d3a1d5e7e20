use Rattle.std.proofs.Common.{◌≡◌, ◌≤◌, take}
use Rattle.std.specs.List.{flat_map}
use Rattle.tester_types.specs.Outside.{gained}
use Rattle.grade_parts.specs.Step.{fault_lines}
use Rattle.grade_parts.proofs.merge.put_faults.Given as goal

abbrev pub invariant-loop-log : goal.invariant-loop-log
invariant-loop-log g l = record {
  held : g.K.Sink.told l.sink ≡ gained (g.K.Sink.told l.fn.sink) (flat_map fault_lines (take l.log-index l.logs));
  count : g.K.Sink.faults l.fn.sink ≤ g.K.Sink.faults l.sink;
}
