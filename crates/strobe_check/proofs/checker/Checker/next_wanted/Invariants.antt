use Rattle.std.proofs.Common.{◌≡◌, ◌≤◌, ◌-◌, length}
use Rattle.tester_types.specs.declared.cycle.Moment.{Moment}
use Rattle.strobe_check.specs.Ahead.{Stands}
use Rattle.strobe_check.proofs.AheadLemmas.{IsAsking}
use Rattle.strobe_check.proofs.checker.Checker.next_wanted.Given as goal

-- no signal so far is to be sensed, and the looks that are left are those at the others
abbrev pub invariant-loop-signal : goal.invariant-loop-signal
invariant-loop-signal l = record {
  same : l.ahead.sorted ≡ l.sorted;
  within : l.signal ≤ length l.self.windows;
  asking : (moment : Moment) → Stands moment l.fn.ahead
      → IsAsking moment l.self l.sorted l.fn.ahead.signal l.signal l.rest;
}

abbrev pub decreases-loop-signal : goal.decreases-loop-signal
decreases-loop-signal l = length l.self.windows - l.signal
