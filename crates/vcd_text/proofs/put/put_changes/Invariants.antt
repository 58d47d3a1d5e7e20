use Rattle.std.proofs.Common.{◌≡◌, ◌≤◌, ℕ, take}
use Rattle.std.specs.List.{flat_map}
use Rattle.tester_types.specs.declared.level.Drive.{Drive}
use Rattle.tester_types.specs.Outside.{gained}
use Rattle.vcd_text.specs.Dump.{ended, line_of_drive}
use Rattle.vcd_text.proofs.put.put_changes.Given as goal

abbrev pub invariant-loop-signal : goal.invariant-loop-signal
invariant-loop-signal g l = record {
  held : g.K.Sink.told l.sink
      ≡ gained (g.K.Sink.told l.fn.sink) (flat_map (λ (given : ℕ × Drive). ended (line_of_drive given)) (take l.signal-index l.drives));
  count : g.K.Sink.faults l.fn.sink ≤ g.K.Sink.faults l.sink;
}
