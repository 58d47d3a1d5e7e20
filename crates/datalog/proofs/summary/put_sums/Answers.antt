use Rattle.std.proofs.Common.{arith, rules}
use Rattle.tester_types.specs.Records.{records_of}
use Rattle.datalog.specs.DatalogText.{bins_of}
use Rattle.datalog.proofs.CountLemmas.{counts-are-totals}
use Rattle.datalog.proofs.summary.put_sums.Goals as goal

pub returns : goal.returns
returns g c = record {
  puts = rw (counts-are-totals (bins_of c.args.plan.now (records_of c.args.sites.now)) c.counts_of.result c.counts_of.ensures) at c.put_totals.ensures.puts;
  count = omega arith;
  cause = search rules;
}
