use Rattle.std.proofs.Common.{arith, rules}
use Rattle.std.proofs.lemmas.List.{get_or_default}
use Rattle.std.proofs.lemmas.Result.{err_from_is_err_and}
use Rattle.tester_types.proofs.OutsideLemmas.{each_stops}
use Rattle.code_listing.specs.Text.{names_of, look_words}
use Rattle.code_listing.proofs.moments.put_looks.Goals as goal

pub returns-in_err-put_look : goal.returns-in_err-put_look
returns-in_err-put_look g c =
    let p = err_from_is_err_and c.from_residual.result c.from_residual.ensures.1 in
    record {
      puts = rw p.1
          (each_stops (look_words (names_of c.args.code.now)) _ _ _ c.args.looks.now c.loop-signal.signal-index _ c.loop-signal-test.true
          (get_or_default c.args.looks.now c.loop-signal.signal-index _ _ c.loop-signal-test.true)
          c.loop-signal.invariant.held c.in_err-put_look.ensures.puts);
      count = omega arith;
      cause = search rules;
    }
