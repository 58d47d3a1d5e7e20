use Rattle.std.proofs.Common.{length, ◌-◌, ◌≤◌}
use Rattle.tester_types.proofs.WaveLemmas.{RiseTo}
use Rattle.tester_types.proofs.wave_search.rise.Given as goal

-- the waves before the place rise
abbrev pub invariant-loop-place : goal.invariant-loop-place
invariant-loop-place l = record { some : 1 ≤ l.place; rise : RiseTo l.waves l.place }

abbrev pub decreases-loop-place : goal.decreases-loop-place
decreases-loop-place l = length l.waves - l.place
