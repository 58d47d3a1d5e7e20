use Rattle.std.proofs.Common.{◌≡◌, ◌+◌, length, get_or, ap, ◌∙◌, arith, rules}
use Rattle.std.proofs.lemmas.Result.{err_from_is_err_and}
use Rattle.tester_types.specs.Outside.{gained}
use Rattle.log_parts.specs.Dealt.{dealt_site}
use Rattle.log_parts.proofs.RangedLemmas.{ranged_more, ranged_stops, ranged_all}
use Rattle.log_parts.proofs.merged.put_sites.Goals as goal

pub returns-in_err-put_site : goal.returns-in_err-put_site
returns-in_err-put_site g c =
    let p = err_from_is_err_and c.from_residual.result c.from_residual.ensures.1 in
    let i = c.loop-rank.rank in
    let here : i ≡ 0 + i = omega arith in
    record {
      puts = rw p.1
          (ranged_stops (λ rank. dealt_site c.args.logs.now (get_or c.args.sites.now rank 0) rank) 0 (length c.args.sites.now) i i _ _ _
          c.loop-rank-test.true here c.loop-rank.invariant.held c.in_err-put_site.ensures.puts);
      count = omega arith;
      cause = search rules;
    }

pub loop-rank-preserved : goal.loop-rank-preserved
loop-rank-preserved g c =
    let i = c.loop-rank.rank in
    let here : i ≡ 0 + i = omega arith in
    record {
      held = ranged_more (λ rank. dealt_site c.args.logs.now (get_or c.args.sites.now rank 0) rank) 0 (length c.args.sites.now) i i _ _ _
          c.loop-rank-test.true here c.loop-rank.invariant.held c.in_ok-put_site.ensures.puts;
      count = omega (arith, c.in_ok-put_site.ensures.count);
    }

pub returns : goal.returns
returns g c =
    let n = length c.args.sites.now in
    record {
      puts = c.loop-rank.invariant.held
          ∙ ap (gained (g.K.Sink.told c.args.sink.now))
          (ranged_all (λ rank. dealt_site c.args.logs.now (get_or c.args.sites.now rank 0) rank) 0 n c.loop-rank.rank (omega arith));
      count = omega arith;
      cause = search rules;
    }
