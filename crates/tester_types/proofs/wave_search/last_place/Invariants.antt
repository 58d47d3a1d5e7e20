use Rattle.std.proofs.Common.{◌≡◌, ◌≤◌, length, ℕ, ◌<◌, false}
use Rattle.std.specs.Prelude.{slice_index_or}
use Rattle.tester_types.specs.Waves.{is_wave}
use Rattle.tester_types.specs.declared.wave.Wave.{Wave}
use Rattle.tester_types.proofs.wave_search.last_place.Given as goal

-- no wave from the place on is for the signal and the character
abbrev pub invariant-loop-place : goal.invariant-loop-place
invariant-loop-place l = record {
  within : l.place ≤ length l.waves;
  none : (j : ℕ) (d : Wave) → l.place ≤ j → j < length l.waves
      → is_wave l.signal l.character (slice_index_or l.waves j d) ≡ false;
}

abbrev pub decreases-loop-place : goal.decreases-loop-place
decreases-loop-place l = l.place
