use Rattle.std.proofs.Common.{arith, rules}
use Rattle.std.proofs.lemmas.Result.{err_from_is_err_and, on_err_weaker}
use Rattle.tester_types.proofs.OutsideLemmas.{front_more, puts_last, risen_behind}
use Rattle.log_parts.specs.Dealt.{dealt_text, sums_text}
use Rattle.log_parts.proofs.merged.put_lot.Goals as goal

pub returns-in_err-put_sites : goal.returns-in_err-put_sites
returns-in_err-put_sites g c =
    let p = err_from_is_err_and c.from_residual.result c.from_residual.ensures.1 in
    record {
      puts = rw p.1
          (front_more _ _ (dealt_text c.args.logs.now c.args.sites.now) (sums_text c.args.logs.now) c.in_err-put_sites.ensures.puts);
      count = omega arith;
      cause = search rules;
    }

pub returns : goal.returns
returns g c = record {
  puts = puts_last (g.K.Sink.told c.args.sink.now) (g.K.Sink.told c.put_sites.new.sink) _ (dealt_text c.args.logs.now c.args.sites.now)
      (sums_text c.args.logs.now) _ c.in_ok-put_sites.ensures.puts c.put_totals.ensures.puts;
  count = omega arith;
  cause = on_err_weaker c.put_totals.result
      (risen_behind (g.K.Sink.faults c.args.sink.now) (g.K.Sink.faults c.put_sites.new.sink) (g.K.Sink.faults c.put_totals.new.sink)
      c.in_ok-put_sites.ensures.count c.put_totals.ensures.count)
      c.put_totals.ensures.cause;
}
