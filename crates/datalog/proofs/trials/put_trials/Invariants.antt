use Rattle.std.proofs.Common.{◌≡◌, ◌≤◌, take}
use Rattle.std.specs.List.{flat_map}
use Rattle.tester_types.specs.Outside.{gained}
use Rattle.datalog.specs.DatalogText.{trial_text}
use Rattle.datalog.proofs.trials.put_trials.Given as goal

abbrev pub invariant-loop-trial : goal.invariant-loop-trial
invariant-loop-trial g l = record {
  held : g.K.Sink.told l.sink ≡ gained (g.K.Sink.told l.fn.sink) (flat_map (trial_text l.code) (take l.trial-index l.trials));
  count : g.K.Sink.faults l.fn.sink ≤ g.K.Sink.faults l.sink;
}
