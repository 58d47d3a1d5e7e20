use Rattle.std.proofs.Common.{◌≤◌, ◌-◌, length}
use Rattle.strobe_check.specs.Ahead.{Stands}
use Rattle.tests_floor.proofs.strobe_tests.named.Given as goal

-- the asking stands at a signal of the checker's or past the last one
abbrev pub invariant-loop-signal : goal.invariant-loop-signal
invariant-loop-signal l = record {
  stands : Stands l.next l.ahead;
  within : l.ahead.signal ≤ length l.checker.bound;
}

abbrev pub decreases-loop-signal : goal.decreases-loop-signal
decreases-loop-signal l = length l.checker.bound - l.ahead.signal
