use Rattle.std.proofs.Common.{arith, rules}
use Rattle.std.proofs.lemmas.Result.{err_from_is_err_and}
use Rattle.tester_types.proofs.OutsideLemmas.{front_more, puts_last}
use Rattle.tester_types.specs.Records.{records_of}
use Rattle.datalog.specs.DatalogText.{bins_of, totals_text}
use Rattle.stil_tool.specs.Drill.{drill_line}
use Rattle.stil_tool.proofs.drill.put_summary.Goals as goal

pub returns-in_err-put_counts : goal.returns-in_err-put_counts
returns-in_err-put_counts g c =
    let p = err_from_is_err_and c.from_residual.result c.from_residual.ensures.1 in
    record {
      puts = rw p.1
          (front_more _ _ (drill_line c.args.number (records_of c.args.book.now)) (totals_text (bins_of c.args.plan.now (records_of c.args.book.now)))
          c.in_err-put_counts.ensures.puts);
      count = omega arith;
      cause = search rules;
    }

pub returns : goal.returns
returns g c = record {
  puts = puts_last (g.K.Sink.told c.args.out.now) (g.K.Sink.told c.put_counts.new.out) _
      (drill_line c.args.number (records_of c.args.book.now)) (totals_text (bins_of c.args.plan.now (records_of c.args.book.now))) _
      c.in_ok-put_counts.ensures.puts c.print_totals.ensures.puts;
  count = omega arith;
  cause = search rules;
}
