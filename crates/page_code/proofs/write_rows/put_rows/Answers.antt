use Rattle.std.proofs.Common.{[], ap, sym, ◌∙◌, arith, take, get_or, rules}
use Rattle.std.proofs.lemmas.Result.{err_from_is_err_and}
use Rattle.tester_types.specs.Outside.{gained}
use Rattle.tester_types.proofs.OutsideLemmas.{gained_both}
use Rattle.page_code.specs.Spelling.{behind, row}
use Rattle.page_code.proofs.SavingLemmas.{behind_more, behind_stops}
use Rattle.page_code.proofs.write_rows.put_rows.Goals as goal

pub returns-in_err-put_row : goal.returns-in_err-put_row
returns-in_err-put_row g c =
    let p = err_from_is_err_and c.from_residual.result c.from_residual.ensures.1 in
    record {
      puts = rw p.1
          (behind_stops (row c.args.version) _ _ _ c.args.rows.now c.loop-number.number [] (omega arith)
          c.loop-number.invariant.held c.in_err-put_row.ensures.puts);
      count = omega arith;
      cause = search rules;
    }

pub loop-number-preserved : goal.loop-number-preserved
loop-number-preserved g c =
    let rows = c.args.rows.now in
    let number = c.loop-number.number in
    let spell = row c.args.version in
    record {
      held = gained_both (g.K.Sink.told c.args.sink.now) _ _ (behind spell [] (take number rows)) (spell (take number rows) (get_or rows number []))
          c.loop-number.invariant.held c.in_ok-put_row.ensures.puts
          ∙ ap (gained (g.K.Sink.told c.args.sink.now)) (sym (behind_more spell rows number [] (omega arith)));
      count = omega (arith, c.loop-number.invariant.count, c.put_row.ensures.count);
    }
