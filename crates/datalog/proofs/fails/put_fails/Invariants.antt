use Rattle.std.proofs.Common.{◌≡◌, ◌≤◌, take}
use Rattle.std.specs.List.{flat_map}
use Rattle.tester_types.specs.Outside.{gained}
use Rattle.datalog.specs.DatalogText.{fail_line}
use Rattle.datalog.proofs.fails.put_fails.Given as goal

abbrev pub invariant-loop-fail : goal.invariant-loop-fail
invariant-loop-fail g l = record {
  held : g.K.Sink.told l.sink ≡ gained (g.K.Sink.told l.fn.sink) (flat_map (fail_line l.code) (take l.fail-index l.fails));
  count : g.K.Sink.faults l.fn.sink ≤ g.K.Sink.faults l.sink;
}
