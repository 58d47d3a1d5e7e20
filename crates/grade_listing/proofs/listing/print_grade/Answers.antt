use Rattle.std.proofs.Common.{arith, rules}
use Rattle.std.specs.List.{flat_map}
use Rattle.std.proofs.lemmas.Result.{err_from_is_err_and}
use Rattle.tester_types.proofs.OutsideLemmas.{first_stops, second_stops, third_ends}
use Rattle.grade_listing.specs.GradeText.{good_line, fault_line, total_line}
use Rattle.grade_listing.proofs.listing.print_grade.Goals as goal

pub returns-in_err-put_good : goal.returns-in_err-put_good
returns-in_err-put_good g c =
    let p = err_from_is_err_and c.from_residual.result c.from_residual.ensures.1 in
    record {
      puts = rw p.1
          (first_stops _ _ (good_line c.args.grade.now.good) (flat_map (fault_line c.args.net.now.net.names) c.args.grade.now.faults)
          (total_line c.args.grade.now.faults) c.in_err-put_good.ensures.puts);
      count = omega arith;
      cause = search rules;
    }

pub returns-in_err-put_faults : goal.returns-in_err-put_faults
returns-in_err-put_faults g c =
    let p = err_from_is_err_and c.from_residual-in_err-put_faults.result c.from_residual-in_err-put_faults.ensures.1 in
    record {
      puts = rw p.1
          (second_stops _ (g.K.Sink.told c.put_good.new.sink) _ (good_line c.args.grade.now.good) (flat_map (fault_line c.args.net.now.net.names) c.args.grade.now.faults)
          (total_line c.args.grade.now.faults) c.in_ok-put_good.ensures.puts
          (rw c.as_slice.ensures at c.in_err-put_faults.ensures.puts));
      count = omega arith;
      cause = search rules;
    }

pub returns : goal.returns
returns g c = record {
  puts = third_ends _ (g.K.Sink.told c.put_good.new.sink) (g.K.Sink.told c.put_faults.new.sink) _ (good_line c.args.grade.now.good)
      (flat_map (fault_line c.args.net.now.net.names) c.args.grade.now.faults) (total_line c.args.grade.now.faults) _
      c.in_ok-put_good.ensures.puts (rw c.as_slice.ensures at c.in_ok-put_faults.ensures.puts)
      (rw c.as_slice-2.ensures at c.put_total.ensures.puts);
  count = omega arith;
  cause = search rules;
}
