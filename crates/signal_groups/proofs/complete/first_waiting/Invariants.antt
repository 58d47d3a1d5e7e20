use Rattle.std.proofs.Common.{◌≡◌, ◌<◌, ℕ, true}
use Rattle.signal_groups.specs.Graph.{is_done}
use Rattle.signal_groups.proofs.complete.first_waiting.Given as goal

abbrev pub invariant-loop-place : goal.invariant-loop-place
invariant-loop-place l = (k : ℕ) → k < l.place → is_done l.done k ≡ true
