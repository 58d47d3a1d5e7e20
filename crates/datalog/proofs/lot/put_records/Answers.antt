use Rattle.std.proofs.Common.{arith, rules}
use Rattle.std.proofs.lemmas.Result.{err_from_is_err_and}
use Rattle.tester_types.proofs.OutsideLemmas.{each_stops}
use Rattle.datalog.specs.DatalogText.{record_text}
use Rattle.datalog.proofs.lot.put_records.Goals as goal

pub returns-in_err-put_record : goal.returns-in_err-put_record
returns-in_err-put_record g c =
    let p = err_from_is_err_and c.from_residual.result c.from_residual.ensures.1 in
    record {
      puts = rw p.1
          (each_stops (record_text c.args.code.now c.args.plan.now) _ _ _ c.args.entries.now c.loop-entry.entry-index c.entry-item.result
          c.loop-entry-test.true c.entry-item.is c.loop-entry.invariant.held c.in_err-put_record.ensures.puts);
      count = omega arith;
      cause = search rules;
    }
