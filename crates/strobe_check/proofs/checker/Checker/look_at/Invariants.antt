use Rattle.std.proofs.Common.{◌≡◌, ◌≤◌, ◌-◌, length}
use Rattle.tester_types.specs.declared.cycle.Moment.{Moment}
use Rattle.strobe_check.specs.History.{History, HasSeen}
use Rattle.strobe_check.specs.Ahead.{HasLeft}
use Rattle.strobe_check.proofs.UnderwayLemmas.{IsUnderway}
use Rattle.strobe_check.proofs.checker.Checker.look_at.Given as goal

-- the signals so far have been judged, and the looks that are left are those at the others
abbrev pub invariant-loop-signal : goal.invariant-loop-signal
invariant-loop-signal l = record {
  same : l.self-inside.bound.items ≡ l.fn.self.bound;
  long : length l.self-inside.bound.items ≡ length l.self-inside.windows;
  most : length l.self-inside.windows ≤ 65536;
  levels_len : length l.self-inside.windows ≤ length l.levels;
  within : l.signal ≤ length l.self-inside.windows;
  left : (moment : Moment) → moment.looks ≡ l.looks → HasLeft moment l.sorted l.signal l.rest;
  underway : (moment : Moment) → moment.at ≡ l.at → moment.looks ≡ l.looks
      → (history : History) → HasSeen history l.fn.self
      → IsUnderway history
      (record { exec = l.exec; cycle = l.cycle; mark = l.mark; moment = moment; levels = l.levels })
      l.signal l.self-inside.bound.items l.self-inside.windows l.self-inside.tally;
}

abbrev pub decreases-loop-signal : goal.decreases-loop-signal
decreases-loop-signal l = length l.self-inside.windows - l.signal
