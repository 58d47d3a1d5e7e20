use Rattle.std.proofs.Common.{length, ◌-◌, ◌≤◌, ◌≡◌, take}
use Rattle.tester_types.specs.Outside.{gained}
use Rattle.tester_types.proofs.printing.put_all.Given as goal

abbrev pub invariant-loop-at : goal.invariant-loop-at
invariant-loop-at g l = record {
  within : l.at ≤ length l.piece;
  held : g.K.Sink.told l.sink ≡ gained (g.K.Sink.told l.fn.sink) (take l.at l.piece);
  count : g.K.Sink.faults l.fn.sink ≤ g.K.Sink.faults l.sink;
}

-- proposed from the loop's first test
abbrev pub decreases-loop-at : goal.decreases-loop-at
decreases-loop-at g l = length l.piece - l.at
