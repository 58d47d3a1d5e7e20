use Rattle.std.proofs.Common.{◌-◌, ◌≤◌, length}
use Rattle.tester_types.specs.Waves.{AreBelow, AreFrom}
use Rattle.tester_types.proofs.wave_search.first_between.Given as goal

-- the waves before the lower place have smaller numbers, and those from the higher one on have none
abbrev pub invariant-loop-low : goal.invariant-loop-low
invariant-loop-low l = record {
  below : AreBelow l.waves l.low l.key;
  above : AreFrom l.waves l.high l.key;
  behind : l.low ≤ l.high;
  within : l.high ≤ length l.waves;
}

abbrev pub decreases-loop-low : goal.decreases-loop-low
decreases-loop-low l = l.high - l.low
