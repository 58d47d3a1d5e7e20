use Rattle.std.proofs.Common.{◌≡◌, ◌≤◌, take}
use Rattle.tester_types.specs.Outside.{gained}
use Rattle.datalog.specs.DatalogText.{total_line, numbered}
use Rattle.datalog.proofs.totals.put_totals.Given as goal

abbrev pub invariant-loop-bin : goal.invariant-loop-bin
invariant-loop-bin g l = record {
  held : g.K.Sink.told l.sink ≡ gained (g.K.Sink.told l.fn.sink) (numbered total_line 0 (take l.bin l.counts));
  count : g.K.Sink.faults l.fn.sink ≤ g.K.Sink.faults l.sink;
}
