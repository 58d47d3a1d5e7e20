use Rattle.std.proofs.Common.{◌≤◌, length, ◌-◌}
use Rattle.tester_types.proofs.wave_search.bound.Given as goal

-- the step may be anything
abbrev pub invariant-loop-step : goal.invariant-loop-step
invariant-loop-step l = l.from ≤ length l.waves

abbrev pub decreases-loop-step : goal.decreases-loop-step
decreases-loop-step l = length l.waves - l.from - l.step
