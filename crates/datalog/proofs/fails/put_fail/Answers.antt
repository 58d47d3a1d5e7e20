use Rattle.std.proofs.Common.{arith, rules}
use Rattle.std.proofs.lemmas.Result.{err_from_is_err_and}
use Rattle.std.specs.Prelude.{codes}
use Rattle.datalog.specs.DatalogText.{found_words, cell_words, cell_of}
use Rattle.tester_types.proofs.OutsideLemmas.{first_stops, second_stops, third_ends}
use Rattle.datalog.proofs.fails.put_fail.Goals as goal

pub returns-in_err-put_found : goal.returns-in_err-put_found
returns-in_err-put_found g c =
    let p = err_from_is_err_and c.from_residual.result c.from_residual.ensures.1 in
    let code = c.args.code.now in
    let fail = c.args.fail.now in
    record {
      puts = rw p.1
          (first_stops _ _ (found_words code fail) (cell_words (cell_of code fail)) (codes "\n")
          c.in_err-put_found.ensures.puts);
      count = omega arith;
      cause = search rules;
    }

pub returns-in_err-put_cell : goal.returns-in_err-put_cell
returns-in_err-put_cell g c =
    let p = err_from_is_err_and c.from_residual-in_err-put_cell.result c.from_residual-in_err-put_cell.ensures.1 in
    let code = c.args.code.now in
    let fail = c.args.fail.now in
    record {
      puts = rw p.1
          (second_stops _ (g.K.Sink.told c.put_found.new.sink) _
          (found_words code fail) (cell_words (cell_of code fail)) (codes "\n")
          c.in_ok-put_found.ensures.puts c.in_err-put_cell.ensures.puts);
      count = omega arith;
      cause = search rules;
    }

pub returns : goal.returns
returns g c =
    let code = c.args.code.now in
    let fail = c.args.fail.now in
    record {
      puts = third_ends (g.K.Sink.told c.args.sink.now) (g.K.Sink.told c.put_found.new.sink) (g.K.Sink.told c.put_cell.new.sink) _
          (found_words code fail) (cell_words (cell_of code fail)) (codes "\n") _
          c.in_ok-put_found.ensures.puts c.in_ok-put_cell.ensures.puts c.put_all.ensures.puts;
      count = omega arith;
      cause = search rules;
    }
