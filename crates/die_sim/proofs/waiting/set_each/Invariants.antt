use Rattle.std.proofs.Common.{◌≡◌, ◌<◌, ℕ, true, length}
use Rattle.die_sim.specs.Waiting.{waits_at}
use Rattle.die_sim.proofs.waiting.set_each.Given as goal

abbrev pub invariant-loop-place : goal.invariant-loop-place
invariant-loop-place l = record {
  size : length l.bits ≡ length l.fn.bits;
  all : (k : ℕ) → k < l.place → waits_at l.bits k ≡ true;
}
