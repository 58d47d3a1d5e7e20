use Rattle.std.proofs.Common.{append_assoc, arith, rules}
use Rattle.datalog.proofs.trials.put_stopped_by_desk.Goals as goal

pub returns : goal.returns
returns g c = record {
  puts = simp append_assoc c.put_each.ensures.puts;
  count = omega arith;
  cause = search rules;
}
