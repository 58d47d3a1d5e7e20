use Rattle.std.proofs.Common.{◌≡◌, ◌≤◌, ◌*◌, take}
use Rattle.std.specs.Prelude.{sum_by}
use Rattle.grade_parts.specs.Step.{found_of}
use Rattle.grade_parts.proofs.merge.found_all.Given as goal

abbrev pub invariant-loop-log : goal.invariant-loop-log
invariant-loop-log l = record {
  all : l.all ≡ sum_by found_of (take l.log-index l.logs);
  few : l.all ≤ l.log-index * 18446744073709551615;
}
