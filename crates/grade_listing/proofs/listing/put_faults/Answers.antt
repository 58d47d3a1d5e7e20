use Rattle.std.proofs.Common.{arith, rules}
use Rattle.std.proofs.lemmas.List.{get_or_default}
use Rattle.std.proofs.lemmas.Result.{err_from_is_err_and}
use Rattle.tester_types.proofs.OutsideLemmas.{each_stops}
use Rattle.grade_listing.specs.GradeText.{fault_line}
use Rattle.grade_listing.proofs.listing.put_faults.Goals as goal

pub returns-in_err-put_fault : goal.returns-in_err-put_fault
returns-in_err-put_fault g c =
    let p = err_from_is_err_and c.from_residual.result c.from_residual.ensures.1 in
    record {
      puts = rw p.1
          (each_stops (fault_line c.args.net.now.net.names) _ _ _ c.args.faults.now c.loop-graded.graded-index _ c.loop-graded-test.true
          (get_or_default c.args.faults.now c.loop-graded.graded-index _ _ c.loop-graded-test.true)
          c.loop-graded.invariant.held c.in_err-put_fault.ensures.puts);
      count = omega arith;
      cause = search rules;
    }
