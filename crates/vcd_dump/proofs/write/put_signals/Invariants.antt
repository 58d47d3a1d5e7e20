use Rattle.std.proofs.Common.{◌≡◌, ◌≤◌}
use Rattle.std.specs.List.{flat_map, range_with_len}
use Rattle.die_sim.specs.Die.{device_of}
use Rattle.tester_types.specs.Outside.{gained}
use Rattle.vcd_dump.specs.Written.{var_text}
use Rattle.vcd_dump.proofs.write.put_signals.Given as goal

abbrev pub invariant-loop-signal : goal.invariant-loop-signal
invariant-loop-signal g l = record {
  held : g.K.Sink.told l.sink ≡ gained (g.K.Sink.told l.fn.sink) (flat_map (var_text (device_of l.image) l.code) (range_with_len 0 l.signal));
  count : g.K.Sink.faults l.fn.sink ≤ g.K.Sink.faults l.sink;
}
