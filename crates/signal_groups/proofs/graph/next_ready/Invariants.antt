use Rattle.std.proofs.Common.{◌≡◌, ℕ, ◌<◌, false}
use Rattle.signal_groups.specs.Graph.{is_done, IsStuckAt}
use Rattle.signal_groups.proofs.graph.next_ready.Given as goal

abbrev pub invariant-loop-group : goal.invariant-loop-group
invariant-loop-group l = (g : ℕ) → g < l.group → is_done l.done g ≡ false → IsStuckAt l.graph l.done g
