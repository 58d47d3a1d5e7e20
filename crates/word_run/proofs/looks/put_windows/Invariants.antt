use Rattle.std.proofs.Common.{◌≡◌, ℕ, ◌<◌, length, take}
use Rattle.std.specs.Prelude.{None, slice_index_or}
use Rattle.strobe_check.specs.Step.{looks_of, window_after}
use Rattle.word_run.proofs.looks.put_windows.Given as goal

abbrev pub invariant-loop-signal : goal.invariant-loop-signal
invariant-loop-signal l = record {
  count : length l.windows.items ≡ length l.fn.windows.items;
  each : (s : ℕ) → s < length l.fn.windows.items → slice_index_or l.windows.items s None
      ≡ window_after (slice_index_or l.fn.windows.items s None) (looks_of s (take l.signal-index l.looks));
}
