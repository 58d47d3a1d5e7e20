use Rattle.std.proofs.Common.{◌≡◌, ◌≤◌, [], take}
use Rattle.tester_types.specs.Outside.{gained}
use Rattle.page_code.specs.Spelling.{behind, row}
use Rattle.page_code.proofs.write_rows.put_rows.Given as goal

abbrev pub invariant-loop-number : goal.invariant-loop-number
invariant-loop-number g l = record {
  held : g.K.Sink.told l.sink ≡ gained (g.K.Sink.told l.fn.sink) (behind (row l.version) [] (take l.number l.rows));
  count : g.K.Sink.faults l.fn.sink ≤ g.K.Sink.faults l.sink;
}
