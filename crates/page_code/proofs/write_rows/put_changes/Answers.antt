use Rattle.std.proofs.Common.{ap, ◌∙◌, arith, rules}
use Rattle.std.specs.List.{flat_map}
use Rattle.std.proofs.lemmas.Result.{err_from_is_err_and}
use Rattle.tester_types.specs.Outside.{gained}
use Rattle.page_code.specs.Spelling.{change}
use Rattle.page_code.proofs.ChangesLemmas.{changes_all}
use Rattle.page_code.proofs.SavingLemmas.{changes_put, changes_stop}
use Rattle.page_code.proofs.write_rows.put_changes.Goals as goal

pub returns-in_err-put_change : goal.returns-in_err-put_change
returns-in_err-put_change g c =
    let p = err_from_is_err_and c.from_residual.result c.from_residual.ensures.1 in
    record {
      puts = rw p.1
          (changes_stop _ _ _ c.args.last.now c.args.row.now c.loop-signal.signal (omega arith) (omega arith)
          c.loop-signal.invariant.held c.in_err-put_change.ensures.puts);
      count = omega arith;
      cause = search rules;
    }

pub loop-signal-preserved : goal.loop-signal-preserved
loop-signal-preserved g c = record {
  held = changes_put _ _ _ c.args.last.now c.args.row.now c.loop-signal.signal (omega arith) (omega arith)
      c.loop-signal.invariant.held c.in_ok-put_change.ensures.puts;
  count = omega (arith, c.loop-signal.invariant.count, c.put_change.ensures.count);
}

pub returns : goal.returns
returns g c = record {
  puts = c.loop-signal.invariant.held
      ∙ ap (λ cs. gained (g.K.Sink.told c.args.sink.now) (flat_map change cs))
      (changes_all c.args.last.now c.args.row.now c.loop-signal.signal (omega arith));
  count = omega arith;
  cause = search rules;
}
