use Rattle.std.proofs.Common.{◌≡◌, ◌≤◌, take}
use Rattle.std.specs.List.{flat_map}
use Rattle.tester_types.specs.Outside.{gained}
use Rattle.datalog.specs.DatalogText.{record_text}
use Rattle.datalog.proofs.lot.put_records.Given as goal

abbrev pub invariant-loop-entry : goal.invariant-loop-entry
invariant-loop-entry g l = record {
  held : g.K.Sink.told l.sink ≡ gained (g.K.Sink.told l.fn.sink) (flat_map (record_text l.code l.plan) (take l.entry-index l.entries));
  count : g.K.Sink.faults l.fn.sink ≤ g.K.Sink.faults l.sink;
}
