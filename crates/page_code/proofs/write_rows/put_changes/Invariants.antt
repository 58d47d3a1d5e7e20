use Rattle.std.proofs.Common.{◌≡◌, ◌≤◌, take}
use Rattle.std.specs.List.{flat_map}
use Rattle.tester_types.specs.Outside.{gained}
use Rattle.page_code.specs.Changes.{changes}
use Rattle.page_code.specs.Spelling.{change}
use Rattle.page_code.proofs.write_rows.put_changes.Given as goal

abbrev pub invariant-loop-signal : goal.invariant-loop-signal
invariant-loop-signal g l = record {
  held : g.K.Sink.told l.sink
      ≡ gained (g.K.Sink.told l.fn.sink) (flat_map change (changes 0 (take l.signal l.last) (take l.signal l.row)));
  count : g.K.Sink.faults l.fn.sink ≤ g.K.Sink.faults l.sink;
}
