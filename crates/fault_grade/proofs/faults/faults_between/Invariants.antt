use Rattle.std.proofs.Common.{◌≡◌, ◌-◌, ◌≤◌, map}
use Rattle.std.specs.List.{range_with_len}
use Rattle.fault_grade.specs.Run.{fault_at}
use Rattle.fault_grade.proofs.faults.faults_between.Given as goal

abbrev pub invariant-loop-number : goal.invariant-loop-number
invariant-loop-number l = record {
  faults : l.faults.items ≡ map fault_at (range_with_len l.from (l.number - l.from));
  order : l.from ≤ l.number;
}
