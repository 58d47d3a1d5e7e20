use Rattle.std.proofs.Common.{ℕ, ◌<◌, List, [], length, get_or, arith, rules}
use Rattle.std.proofs.lemmas.List.{get_or_default}
use Rattle.std.proofs.lemmas.Result.{err_from_is_err_and}
use Rattle.tester_types.specs.declared.level.Drive.{Drive}
use Rattle.tester_types.proofs.OutsideLemmas.{each_stops}
use Rattle.vcd_text.specs.Put.{call_text}
use Rattle.vcd_text.proofs.put.put_calls.Goals as goal

pub put_call-requires : goal.put_call-requires
put_call-requires g c k d within =
    let there : c.loop-place.place < length c.args.tape.now.calls = omega (arith, c.loop-place-test.true, c.len-place-end.ensures) in
    rw c.drives.ensures (c.requires c.loop-place.place (0, []) there k d (rw c.drives.ensures at within))

pub returns-in_err-put_call : goal.returns-in_err-put_call
returns-in_err-put_call g c =
    let p = err_from_is_err_and c.from_residual.result c.from_residual.ensures.1 in
    let calls = c.args.tape.now.calls in
    let place = c.loop-place.place in
    let there : place < length calls = omega (arith, c.loop-place-test.true, c.len-place-end.ensures) in
    let item : ℕ × List (ℕ × Drive) = get_or calls place (0, []) in
    record {
      puts = rw p.1
          (each_stops call_text _ _ _ calls place item there (get_or_default calls place (0, []) item there)
          c.loop-place.invariant.held (rw (c.instant.ensures, c.drives.ensures) at c.in_err-put_call.ensures.puts));
      count = omega arith;
      cause = search rules;
    }
