use Rattle.std.proofs.Common.{arith, rules}
use Rattle.std.proofs.lemmas.Result.{err_from_is_err_and}
use Rattle.tester_types.proofs.OutsideLemmas.{each_stops}
use Rattle.datalog.specs.DatalogText.{trial_text}
use Rattle.datalog.proofs.trials.put_trials.Goals as goal

pub returns-in_err-put_trial : goal.returns-in_err-put_trial
returns-in_err-put_trial g c =
    let p = err_from_is_err_and c.from_residual.result c.from_residual.ensures.1 in
    record {
      puts = rw p.1
          (each_stops (trial_text c.args.code.now) _ _ _ c.args.trials.now c.loop-trial.trial-index c.trial-item.result
          c.loop-trial-test.true c.trial-item.is c.loop-trial.invariant.held c.in_err-put_trial.ensures.puts);
      count = omega arith;
      cause = search rules;
    }
