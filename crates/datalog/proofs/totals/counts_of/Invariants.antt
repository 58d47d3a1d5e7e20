use Rattle.std.proofs.Common.{ℕ, ◌*◌, ◌^◌, ◌<◌, ◌≤◌, take, get_or}
use Rattle.tester_types.specs.Records.{records_of}
use Rattle.datalog.specs.Counts.{AreCounts}
use Rattle.datalog.specs.DatalogText.{bins_of}
use Rattle.datalog.proofs.totals.counts_of.Given as goal

abbrev pub invariant-loop-entries : goal.invariant-loop-entries
invariant-loop-entries l = record {
  counted : AreCounts (bins_of l.plan (records_of (take l.entries-index l.sites))) l.counts;
  small : (bin : ℕ) → bin < 100 → get_or l.counts bin 0 ≤ l.entries-index * 2 ^ 64;
}
