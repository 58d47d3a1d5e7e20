use Rattle.std.proofs.Common.{◌≡◌, ◌≤◌, take}
use Rattle.std.specs.List.{flat_map}
use Rattle.tester_types.specs.Outside.{gained}
use Rattle.page_code.proofs.write_fields.put_each.Given as goal

abbrev pub invariant-loop-item : goal.invariant-loop-item
invariant-loop-item g l = record {
  held : g.K.Sink.told l.sink ≡ gained (g.K.Sink.told l.fn.sink) (flat_map g.T.Spelled.spelling (take l.item-index l.items));
  count : g.K.Sink.faults l.fn.sink ≤ g.K.Sink.faults l.sink;
}
