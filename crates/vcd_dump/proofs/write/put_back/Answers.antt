use Rattle.std.proofs.Common.{[], ◌∷◌, arith, rules}
use Rattle.std.specs.List.{flat_map}
use Rattle.std.proofs.lemmas.Result.{err_from_is_err_and}
use Rattle.tester_types.proofs.OutsideLemmas.{front_more, puts_last}
use Rattle.vcd_text.specs.Dump.{upscope, definitions, text_of}
use Rattle.vcd_text.specs.Put.{call_text}
use Rattle.vcd_dump.specs.Written.{back_text}
use Rattle.vcd_dump.proofs.write.put_back.Goals as goal

pub returns-in_err-put_definitions : goal.returns-in_err-put_definitions
unfolding back_text
returns-in_err-put_definitions g c =
    let p = err_from_is_err_and c.from_residual.result c.from_residual.ensures.1 in
    record {
      puts = rw p.1
          (front_more _ _ (text_of (upscope ∷ definitions ∷ [])) (flat_map call_text c.args.tape.now.calls)
          c.in_err-put_definitions.ensures.puts);
      count = omega arith;
      cause = search rules;
    }

pub returns : goal.returns
unfolding back_text
returns g c = record {
  puts = puts_last _ _ _ (text_of (upscope ∷ definitions ∷ [])) (flat_map call_text c.args.tape.now.calls) _
      c.in_ok-put_definitions.ensures.puts c.put_calls.ensures.puts;
  count = omega arith;
  cause = search rules;
}
