use Rattle.std.proofs.Common.{arith, rules}
use Rattle.std.proofs.lemmas.Result.{err_from_is_err_and}
use Rattle.std.specs.List.{flat_map}
use Rattle.datalog.specs.DatalogText.{try_line, fail_line, verdict_line}
use Rattle.tester_types.proofs.OutsideLemmas.{first_stops, second_stops, third_ends}
use Rattle.datalog.proofs.trials.put_trial.Goals as goal

pub returns-in_err-put_try : goal.returns-in_err-put_try
returns-in_err-put_try g c =
    let p = err_from_is_err_and c.from_residual.result c.from_residual.ensures.1 in
    let trial = c.args.trial.now in
    record {
      puts = rw p.1
          (first_stops _ _ (try_line trial) (flat_map (fail_line c.args.code.now) trial.kept) (verdict_line trial.verdict)
          c.in_err-put_try.ensures.puts);
      count = omega arith;
      cause = search rules;
    }

pub returns-in_err-put_fails : goal.returns-in_err-put_fails
returns-in_err-put_fails g c =
    let p = err_from_is_err_and c.from_residual-in_err-put_fails.result c.from_residual-in_err-put_fails.ensures.1 in
    let trial = c.args.trial.now in
    record {
      puts = rw p.1
          (second_stops _ (g.K.Sink.told c.put_try.new.sink) _
          (try_line trial) (flat_map (fail_line c.args.code.now) trial.kept) (verdict_line trial.verdict)
          c.in_ok-put_try.ensures.puts (rw c.as_slice.ensures at c.in_err-put_fails.ensures.puts));
      count = omega arith;
      cause = search rules;
    }

pub returns : goal.returns
returns g c =
    let trial = c.args.trial.now in
    record {
      puts = third_ends (g.K.Sink.told c.args.sink.now) (g.K.Sink.told c.put_try.new.sink) (g.K.Sink.told c.put_fails.new.sink) _
          (try_line trial) (flat_map (fail_line c.args.code.now) trial.kept) (verdict_line trial.verdict) _
          c.in_ok-put_try.ensures.puts (rw c.as_slice.ensures at c.in_ok-put_fails.ensures.puts) c.put_verdict.ensures.puts;
      count = omega arith;
      cause = search rules;
    }
