use Rattle.std.proofs.Common.{◌≡◌, ◌+◌, min, take}
use Rattle.std.specs.Prelude.{sum_by}
use Rattle.datalog.specs.Summary.{most_fails, trial_fails}
use Rattle.datalog.proofs.summary.with_trials.Given as goal

abbrev pub invariant-loop-trial : goal.invariant-loop-trial
invariant-loop-trial l = l.fails ≡ min (l.fn.fails + sum_by trial_fails (take l.trial-index l.trials)) most_fails
