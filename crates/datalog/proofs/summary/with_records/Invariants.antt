use Rattle.std.proofs.Common.{◌≡◌, ◌+◌, min, take}
use Rattle.std.specs.Prelude.{sum_by}
use Rattle.datalog.specs.Summary.{most_fails, record_fails}
use Rattle.datalog.proofs.summary.with_records.Given as goal

abbrev pub invariant-loop-entry : goal.invariant-loop-entry
invariant-loop-entry l = l.fails ≡ min (l.fn.fails + sum_by record_fails (take l.entry-index l.entries)) most_fails
