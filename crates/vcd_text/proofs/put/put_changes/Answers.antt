use Rattle.std.proofs.Common.{ℕ, get_or, arith, rules}
use Rattle.std.proofs.lemmas.List.{get_or_default}
use Rattle.std.proofs.lemmas.Result.{err_from_is_err_and}
use Rattle.tester_types.specs.declared.level.Drive.{Drive}
use Rattle.tester_types.specs.declared.level.Drive.TheVariants.{Down}
use Rattle.tester_types.proofs.OutsideLemmas.{each_stops}
use Rattle.vcd_text.specs.Dump.{ended, line_of_drive}
use Rattle.vcd_text.proofs.put.put_changes.Goals as goal

pub returns-in_err-put_change : goal.returns-in_err-put_change
returns-in_err-put_change g c =
    let p = err_from_is_err_and c.from_residual.result c.from_residual.ensures.1 in
    let drives = c.args.drives.now in
    let i = c.loop-signal.signal-index in
    let item : ℕ × Drive = get_or drives i (0, Down) in
    record {
      puts = rw p.1
          (each_stops (λ (given : ℕ × Drive). ended (line_of_drive given)) _ _ _ drives i item c.loop-signal-test.true
          (get_or_default drives i (0, Down) item c.loop-signal-test.true) c.loop-signal.invariant.held c.in_err-put_change.ensures.puts);
      count = omega arith;
      cause = search rules;
    }
