use Rattle.std.proofs.Common.{◌≡◌, ◌==◌, ◌&&◌, ℕ, not, false, length, drop}
use Rattle.std.specs.Prelude.{slice_index_or}
use Rattle.std.specs.List.{list_any}
use Rattle.signal_groups.proofs.members.unmark_all.Given as goal

abbrev pub invariant-loop-signal : goal.invariant-loop-signal
invariant-loop-signal l = record {
  count : length l.marks.items ≡ length l.fn.marks.items;
  each : (s : ℕ) →
      (slice_index_or l.marks.items s false && not (list_any (λ g. g == s) (drop l.signal-index l.signals)))
      ≡ (slice_index_or l.fn.marks.items s false && not (list_any (λ g. g == s) l.signals));
}
