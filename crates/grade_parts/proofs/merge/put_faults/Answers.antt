use Rattle.std.proofs.Common.{arith, rules}
use Rattle.std.proofs.lemmas.Result.{err_from_is_err_and}
use Rattle.tester_types.proofs.OutsideLemmas.{each_stops}
use Rattle.grade_parts.specs.Step.{fault_lines}
use Rattle.grade_parts.proofs.merge.put_faults.Goals as goal

pub returns-in_err-put_all : goal.returns-in_err-put_all
returns-in_err-put_all g c =
    let p = err_from_is_err_and c.from_residual.result c.from_residual.ensures.1 in
    record {
      puts = rw p.1
          (each_stops fault_lines _ _ _ c.args.logs.now c.loop-log.log-index c.log-item.result c.loop-log-test.true c.log-item.is
          c.loop-log.invariant.held (rw c.faults.ensures at c.in_err-put_all.ensures.puts));
      count = omega arith;
      cause = search rules;
    }
