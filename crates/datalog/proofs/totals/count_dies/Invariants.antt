use Rattle.std.proofs.Common.{◌≡◌, map, take, get_or}
use Rattle.datalog.specs.Counts.{HaveGrown}
use Rattle.datalog.specs.DatalogText.{die_bin}
use Rattle.datalog.proofs.totals.count_dies.Given as goal

abbrev pub invariant-loop-entry : goal.invariant-loop-entry
invariant-loop-entry l = record {
  grown : HaveGrown l.fn.counts (map (die_bin l.plan) (take l.entry-index l.entries)) l.counts;
  none : get_or l.counts 0 0 ≡ get_or l.fn.counts 0 0;
}
