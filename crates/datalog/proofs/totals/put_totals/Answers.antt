use Rattle.std.proofs.Common.{arith, rules}
use Rattle.std.proofs.lemmas.List.{get_or_default}
use Rattle.std.proofs.lemmas.Result.{err_from_is_err_and}
use Rattle.datalog.specs.DatalogText.{total_line}
use Rattle.datalog.proofs.NumberedLemmas.{numbered_goes_on, numbered_stops}
use Rattle.datalog.proofs.totals.put_totals.Goals as goal

pub returns-in_err-put_total : goal.returns-in_err-put_total
returns-in_err-put_total g c =
    let p = err_from_is_err_and c.from_residual.result c.from_residual.ensures.1 in
    record {
      puts = rw p.1
          (numbered_stops total_line _ _ _ c.loop-bin.bin c.args.counts.now _
          c.loop-bin-test.true (get_or_default c.args.counts.now c.loop-bin.bin 0 _ c.loop-bin-test.true) c.loop-bin.invariant.held c.in_err-put_total.ensures.puts);
      count = omega arith;
      cause = search rules;
    }

pub loop-bin-preserved : goal.loop-bin-preserved
loop-bin-preserved g c = record {
  held = numbered_goes_on total_line _ _ _ c.loop-bin.bin c.args.counts.now _
      c.loop-bin-test.true (get_or_default c.args.counts.now c.loop-bin.bin 0 _ c.loop-bin-test.true) c.loop-bin.invariant.held c.in_ok-put_total.ensures.puts;
  count = omega (arith, c.in_ok-put_total.ensures.count);
}
