use Rattle.std.proofs.Common.{arith, rules}
use Rattle.std.proofs.lemmas.Result.{err_from_is_err_and}
use Rattle.std.specs.List.{flat_map}
use Rattle.lot_plan.specs.Bound.{die_at}
use Rattle.datalog.specs.DatalogText.{die_line, trial_text, bin_line, die_bin}
use Rattle.tester_types.proofs.OutsideLemmas.{first_stops, second_stops, third_ends}
use Rattle.datalog.proofs.records.put_record.Goals as goal

pub returns-in_err-put_die : goal.returns-in_err-put_die
returns-in_err-put_die g c =
    let p = err_from_is_err_and c.from_residual.result c.from_residual.ensures.1 in
    let plan = c.args.plan.now in
    let entry = c.args.entry.now in
    record {
      puts = rw p.1
          (first_stops _ _ (die_line (die_at plan.rows entry.site entry.die).name) (flat_map (trial_text c.args.code.now) entry.trials) (bin_line (die_bin plan entry))
          c.in_err-put_die.ensures.puts);
      count = omega arith;
      cause = search rules;
    }

pub returns-in_err-put_trials : goal.returns-in_err-put_trials
returns-in_err-put_trials g c =
    let p = err_from_is_err_and c.from_residual-in_err-put_trials.result c.from_residual-in_err-put_trials.ensures.1 in
    let plan = c.args.plan.now in
    let entry = c.args.entry.now in
    record {
      puts = rw p.1
          (second_stops _ (g.K.Sink.told c.put_die.new.sink) _
          (die_line (die_at plan.rows entry.site entry.die).name) (flat_map (trial_text c.args.code.now) entry.trials) (bin_line (die_bin plan entry))
          c.in_ok-put_die.ensures.puts (rw c.as_slice.ensures at c.in_err-put_trials.ensures.puts));
      count = omega arith;
      cause = search rules;
    }

pub returns : goal.returns
returns g c =
    let plan = c.args.plan.now in
    let entry = c.args.entry.now in
    record {
      puts = third_ends (g.K.Sink.told c.args.sink.now) (g.K.Sink.told c.put_die.new.sink) (g.K.Sink.told c.put_trials.new.sink) _
          (die_line (die_at plan.rows entry.site entry.die).name) (flat_map (trial_text c.args.code.now) entry.trials) (bin_line (die_bin plan entry)) _
          c.in_ok-put_die.ensures.puts (rw c.as_slice.ensures at c.in_ok-put_trials.ensures.puts) c.put_bin.ensures.puts;
      count = omega arith;
      cause = search rules;
    }
