use Rattle.std.proofs.Common.{arith, rules}
use Rattle.std.proofs.lemmas.Result.{err_from_is_err_and}
use Rattle.tester_types.proofs.OutsideLemmas.{front_more, puts_last}
use Rattle.code_listing.specs.Text.{names_of, instant_words, acts_words}
use Rattle.code_listing.proofs.moments.put_moment.Goals as goal

pub returns-in_err-put_instant : goal.returns-in_err-put_instant
returns-in_err-put_instant g c =
    let p = err_from_is_err_and c.from_residual.result c.from_residual.ensures.1 in
    record {
      puts = rw p.1
          (front_more _ _ (instant_words c.args.moment.now.at) (acts_words (names_of c.args.code.now) c.args.moment.now)
          c.in_err-put_instant.ensures.puts);
      count = omega arith;
      cause = search rules;
    }

pub returns : goal.returns
returns g c = record {
  puts = puts_last (g.K.Sink.told c.args.sink.now) (g.K.Sink.told c.put_instant.new.sink) _ (instant_words c.args.moment.now.at)
      (acts_words (names_of c.args.code.now) c.args.moment.now) _ c.in_ok-put_instant.ensures.puts c.put_acts.ensures.puts;
  count = omega arith;
  cause = search rules;
}
