use Rattle.std.proofs.Common.{◌≡◌, min, take}
use Rattle.std.specs.Prelude.{sum_by}
use Rattle.tester_types.specs.Records.{records_of}
use Rattle.datalog.specs.Summary.{most_fails, record_fails}
use Rattle.datalog.proofs.summary.fails_in.Given as goal

abbrev pub invariant-loop-entries : goal.invariant-loop-entries
invariant-loop-entries l = l.fails ≡ min (sum_by (sum_by record_fails) (records_of (take l.entries-index l.sites))) most_fails
