use Rattle.std.proofs.Common.{◌≡◌, ◌≤◌, take}
use Rattle.std.specs.List.{flat_map}
use Rattle.tester_types.specs.Outside.{gained}
use Rattle.vcd_text.specs.Put.{call_text}
use Rattle.vcd_text.proofs.put.put_calls.Given as goal

abbrev pub invariant-loop-place : goal.invariant-loop-place
invariant-loop-place g l = record {
  held : g.K.Sink.told l.sink ≡ gained (g.K.Sink.told l.fn.sink) (flat_map call_text (take l.place l.tape.calls));
  count : g.K.Sink.faults l.fn.sink ≤ g.K.Sink.faults l.sink;
}
