use Rattle.std.proofs.Common.{◌≡◌, ℕ, ◌<◌, length}
use Rattle.std.specs.Prelude.{slice_get, slice_index}
use Rattle.edge_gen.specs.Signals.{wave_of}
use Rattle.edge_gen.proofs.waves.places.Given as goal

-- the signals up to here have their places
abbrev pub invariant-loop-signal : goal.invariant-loop-signal
invariant-loop-signal l = record {
  each : (signal : ℕ) → signal < l.signal
      → slice_get l.waves (slice_index l.places.items signal) ≡ wave_of l.waves signal (slice_index l.row signal);
  long : length l.places.items ≡ l.signal;
}
