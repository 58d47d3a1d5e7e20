use Rattle.std.proofs.Common.{◌≡◌, ℕ, ◌<◌, true}
use Rattle.std.specs.Prelude.{slice_index}
use Rattle.signal_groups.specs.Graph.{is_done}
use Rattle.signal_groups.proofs.graph.first_undone.Given as goal

abbrev pub invariant-loop-place : goal.invariant-loop-place
invariant-loop-place l = (k : ℕ) → k < l.place → is_done l.done (slice_index l.groups k) ≡ true
