use Rattle.std.proofs.Common.{arith, rules}
use Rattle.std.proofs.lemmas.List.{get_or_default}
use Rattle.std.proofs.lemmas.Result.{err_from_is_err_and}
use Rattle.tester_types.proofs.OutsideLemmas.{each_stops}
use Rattle.datalog.specs.DatalogText.{fail_line}
use Rattle.code_listing.proofs.SequenceLemmas.{each_goes_on}
use Rattle.datalog.proofs.fails.put_fails.Goals as goal

pub returns-in_err-put_fail : goal.returns-in_err-put_fail
returns-in_err-put_fail g c =
    let p = err_from_is_err_and c.from_residual.result c.from_residual.ensures.1 in
    record {
      puts = rw p.1
          (each_stops (fail_line c.args.code.now) _ _ _ c.args.fails.now c.loop-fail.fail-index _ c.loop-fail-test.true
          (get_or_default c.args.fails.now c.loop-fail.fail-index _ _ c.loop-fail-test.true)
          c.loop-fail.invariant.held c.in_err-put_fail.ensures.puts);
      count = omega arith;
      cause = search rules;
    }

pub loop-fail-preserved : goal.loop-fail-preserved
loop-fail-preserved g c = record {
  held = each_goes_on (fail_line c.args.code.now) _ _ _ c.args.fails.now c.loop-fail.fail-index _ c.loop-fail-test.true
      (get_or_default c.args.fails.now c.loop-fail.fail-index _ _ c.loop-fail-test.true)
      c.loop-fail.invariant.held c.in_ok-put_fail.ensures.puts;
  count = omega (arith, c.in_ok-put_fail.ensures.count);
}
