use Rattle.std.proofs.Common.{◌≡◌, ℕ, ◌<◌, length}
use Rattle.std.specs.Prelude.{None, Some, slice_index_or}
use Rattle.std.specs.Int.{bit_at}
use Rattle.word_run.proofs.player.put_firsts.Given as goal

abbrev pub invariant-loop-lane : goal.invariant-loop-lane
invariant-loop-lane l = record {
  count : length l.firsts.items ≡ length l.fn.firsts.items;
  found : (k : ℕ) → k < l.lane → bit_at l.failed k ≡ 1 → slice_index_or l.firsts.items k None ≡ Some l.number;
  kept : (k : ℕ) → bit_at l.failed k ≡ 0 → slice_index_or l.firsts.items k None ≡ slice_index_or l.fn.firsts.items k None;
}
