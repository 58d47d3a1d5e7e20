use Rattle.std.proofs.Common.{◌≤◌, length}
use Rattle.tests_floor.proofs.strobe_tests.checker_of.Given as goal

-- there is a level for each signal
abbrev pub invariant-loop-at : goal.invariant-loop-at
invariant-loop-at l = length l.checker.bound ≤ 3
