use Rattle.std.proofs.Common.{◌≡◌, ◌≤◌, take}
use Rattle.tester_types.specs.Outside.{gained}
use Rattle.datalog.specs.DatalogText.{filed_text, numbered}
use Rattle.datalog.proofs.lot.put_sites.Given as goal

abbrev pub invariant-loop-number : goal.invariant-loop-number
invariant-loop-number g l = record {
  held : g.K.Sink.told l.sink ≡ gained (g.K.Sink.told l.fn.sink) (numbered (filed_text l.code l.plan) 0 (take l.number l.sites));
  count : g.K.Sink.faults l.fn.sink ≤ g.K.Sink.faults l.sink;
}
