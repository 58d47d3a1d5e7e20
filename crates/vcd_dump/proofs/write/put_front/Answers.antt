use Rattle.std.proofs.Common.{[], ◌∷◌, length, arith, rules}
use Rattle.std.specs.List.{flat_map, range_with_len}
use Rattle.std.proofs.lemmas.Result.{err_from_is_err_and}
use Rattle.die_sim.specs.Die.{device_of}
use Rattle.tester_types.proofs.OutsideLemmas.{front_more, puts_last}
use Rattle.vcd_text.specs.Dump.{timescale, scope, text_of}
use Rattle.vcd_dump.specs.Written.{var_text, front_text}
use Rattle.vcd_dump.proofs.write.put_front.Goals as goal

pub returns-in_err-put_start : goal.returns-in_err-put_start
unfolding front_text
returns-in_err-put_start g c =
    let p = err_from_is_err_and c.from_residual.result c.from_residual.ensures.1 in
    record {
      puts = rw p.1
          (front_more _ _ (text_of (timescale ∷ scope ∷ []))
          (flat_map (var_text (device_of c.args.image.now) c.args.code.now) (range_with_len 0 (length c.args.code.now.signals)))
          c.in_err-put_start.ensures.puts);
      count = omega arith;
      cause = search rules;
    }

pub returns : goal.returns
unfolding front_text
returns g c = record {
  puts = puts_last _ _ _ (text_of (timescale ∷ scope ∷ []))
      (flat_map (var_text (device_of c.args.image.now) c.args.code.now) (range_with_len 0 (length c.args.code.now.signals))) _
      c.in_ok-put_start.ensures.puts c.put_signals.ensures.puts;
  count = omega arith;
  cause = search rules;
}
