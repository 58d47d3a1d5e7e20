use Rattle.std.proofs.Common.{arith, rules}
use Rattle.std.proofs.lemmas.Result.{err_from_is_err_and}
use Rattle.std.specs.List.{flat_map}
use Rattle.tester_types.proofs.OutsideLemmas.{front_more, puts_last}
use Rattle.code_listing.specs.Listing.{listed}
use Rattle.code_listing.specs.Text.{names_of, moments_head, moment_line}
use Rattle.code_listing.proofs.moments.put_timed.Goals as goal

pub returns-in_err-put_head : goal.returns-in_err-put_head
returns-in_err-put_head g c =
    let p = err_from_is_err_and c.from_residual.result c.from_residual.ensures.1 in
    record {
      puts = rw p.1
          (front_more _ _ (moments_head (listed c.args.code.now (c.args.number, c.args.cycle.now)))
          (flat_map (moment_line (names_of c.args.code.now)) c.args.moments.now) c.in_err-put_head.ensures.puts);
      count = omega arith;
      cause = search rules;
    }

pub returns : goal.returns
returns g c = record {
  puts = puts_last (g.K.Sink.told c.args.sink.now) (g.K.Sink.told c.put_head.new.sink) _
      (moments_head (listed c.args.code.now (c.args.number, c.args.cycle.now)))
      (flat_map (moment_line (names_of c.args.code.now)) c.args.moments.now) _ c.in_ok-put_head.ensures.puts c.put_all_moments.ensures.puts;
  count = omega arith;
  cause = search rules;
}
