use Rattle.std.proofs.Common.{◌≡◌, ◌≤◌, take}
use Rattle.std.specs.List.{flat_map}
use Rattle.tester_types.specs.Outside.{gained}
use Rattle.code_listing.specs.Text.{names_of, moment_line}
use Rattle.code_listing.proofs.moments.put_all_moments.Given as goal

abbrev pub invariant-loop-moment : goal.invariant-loop-moment
invariant-loop-moment g l = record {
  held : g.K.Sink.told l.sink ≡ gained (g.K.Sink.told l.fn.sink) (flat_map (moment_line (names_of l.code)) (take l.moment-index l.moments));
  count : g.K.Sink.faults l.fn.sink ≤ g.K.Sink.faults l.sink;
}
