use Rattle.std.proofs.Common.{◌≡◌, ◌≤◌, take}
use Rattle.std.specs.List.{flat_map}
use Rattle.tester_types.specs.Outside.{gained}
use Rattle.code_listing.specs.Text.{names_of, push_words}
use Rattle.code_listing.proofs.moments.put_pushes.Given as goal

abbrev pub invariant-loop-signal : goal.invariant-loop-signal
invariant-loop-signal g l = record {
  held : g.K.Sink.told l.sink ≡ gained (g.K.Sink.told l.fn.sink) (flat_map (push_words (names_of l.code)) (take l.signal-index l.drives));
  count : g.K.Sink.faults l.fn.sink ≤ g.K.Sink.faults l.sink;
}
