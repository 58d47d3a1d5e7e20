use Rattle.std.proofs.Common.{arith, rules}
use Rattle.std.proofs.lemmas.Result.{err_from_is_err_and}
use Rattle.tester_types.proofs.OutsideLemmas.{front_more, puts_last}
use Rattle.tester_types.specs.Records.{records_of}
use Rattle.datalog.specs.DatalogText.{site_text, numbered, bins_of, totals_text}
use Rattle.datalog.proofs.LotLemmas.{numbered-filed}
use Rattle.datalog.proofs.lot.put_lot.Goals as goal

pub returns-in_err-put_sites : goal.returns-in_err-put_sites
returns-in_err-put_sites g c =
    let p = err_from_is_err_and c.from_residual.result c.from_residual.ensures.1 in
    record {
      puts = rw p.1
          (front_more _ _ (numbered (site_text c.args.code.now c.args.plan.now) 0 (records_of c.args.sites.now))
          (totals_text (bins_of c.args.plan.now (records_of c.args.sites.now))) (rw (numbered-filed c.args.code.now c.args.plan.now 0 c.args.sites.now) at c.in_err-put_sites.ensures.puts));
      count = omega arith;
      cause = search rules;
    }

pub put_sums-requires-clause-tried : goal.put_sums-requires-clause-tried
put_sums-requires-clause-tried g c = λ site none within k entry there. (c.requires.each site none within k entry there).printable.tried

pub returns : goal.returns
returns g c = record {
  puts = puts_last (g.K.Sink.told c.args.sink.now) (g.K.Sink.told c.put_sites.new.sink) _
      (numbered (site_text c.args.code.now c.args.plan.now) 0 (records_of c.args.sites.now)) (totals_text (bins_of c.args.plan.now (records_of c.args.sites.now))) _
      (rw (numbered-filed c.args.code.now c.args.plan.now 0 c.args.sites.now) at c.in_ok-put_sites.ensures.puts)
      c.put_sums.ensures.puts;
  count = omega arith;
  cause = search rules;
}
