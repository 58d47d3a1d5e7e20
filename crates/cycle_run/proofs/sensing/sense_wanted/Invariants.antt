use Rattle.std.proofs.Common.{◌≡◌, ◌≤◌, ◌-◌, length}
use Rattle.tester_types.specs.declared.cycle.Moment.{Moment}
use Rattle.strobe_check.specs.Ahead.{Stands}
use Rattle.cycle_run.specs.Step.{AreLevels}
use Rattle.cycle_run.proofs.sensing.sense_wanted.Given as goal

-- the signals that were asked about so far have the die's levels, where they are wanted
abbrev pub invariant-loop-signal : goal.invariant-loop-signal
invariant-loop-signal g l = record {
  stands : (moment : Moment) → moment.looks ≡ l.looks → Stands moment l.ahead;
  within : l.ahead.signal ≤ length l.checker.bound;
  levels : (moment : Moment) → moment.looks ≡ l.looks
      → AreLevels (g.K.Socket.told l.fn.socket) l.checker moment l.ahead.signal l.levels.items;
  state : (g.K.Socket.told l.socket).state ≡ (g.K.Socket.told l.fn.socket).state;
  tape : (g.K.Socket.told l.socket).tape ≡ (g.K.Socket.told l.fn.socket).tape;
  loaded : (g.K.Socket.told l.socket).loaded ≡ (g.K.Socket.told l.fn.socket).loaded;
  count : (g.K.Socket.told l.fn.socket).count ≤ (g.K.Socket.told l.socket).count;
  room : length l.levels.items ≡ length l.fn.levels.items;
}

abbrev pub decreases-loop-signal : goal.decreases-loop-signal
decreases-loop-signal g l = length l.checker.bound - l.ahead.signal
