use Rattle.std.proofs.Common.{ℕ, arith, rules}
use Rattle.std.proofs.lemmas.Result.{err_from_is_err_and}
use Rattle.std.specs.List.{flat_map}
use Rattle.tester_types.specs.declared.level.Drive.{Drive}
use Rattle.tester_types.proofs.OutsideLemmas.{front_more, puts_last}
use Rattle.vcd_text.specs.Dump.{ended, at, line_of_drive}
use Rattle.vcd_text.proofs.put.put_call.Goals as goal

pub returns-in_err-put_instant : goal.returns-in_err-put_instant
returns-in_err-put_instant g c =
    let p = err_from_is_err_and c.from_residual.result c.from_residual.ensures.1 in
    record {
      puts = rw p.1
          (front_more _ _ (ended (at c.args.instant)) (flat_map (λ (given : ℕ × Drive). ended (line_of_drive given)) c.args.drives.now)
          c.in_err-put_instant.ensures.puts);
      count = omega arith;
      cause = search rules;
    }

pub returns : goal.returns
returns g c = record {
  puts = puts_last _ _ _ (ended (at c.args.instant)) (flat_map (λ (given : ℕ × Drive). ended (line_of_drive given)) c.args.drives.now) _
      c.in_ok-put_instant.ensures.puts c.put_changes.ensures.puts;
  count = omega arith;
  cause = search rules;
}
