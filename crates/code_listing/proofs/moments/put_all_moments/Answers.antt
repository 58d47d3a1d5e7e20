use Rattle.std.proofs.Common.{arith, rules}
use Rattle.std.proofs.lemmas.Result.{err_from_is_err_and}
use Rattle.tester_types.proofs.OutsideLemmas.{each_stops}
use Rattle.code_listing.specs.Text.{names_of, moment_line}
use Rattle.code_listing.proofs.moments.put_all_moments.Goals as goal

pub returns-in_err-put_moment : goal.returns-in_err-put_moment
returns-in_err-put_moment g c =
    let p = err_from_is_err_and c.from_residual.result c.from_residual.ensures.1 in
    record {
      puts = rw p.1
          (each_stops (moment_line (names_of c.args.code.now)) _ _ _ c.args.moments.now c.loop-moment.moment-index c.moment-item.result c.loop-moment-test.true
          c.moment-item.is c.loop-moment.invariant.held c.in_err-put_moment.ensures.puts);
      count = omega arith;
      cause = search rules;
    }
