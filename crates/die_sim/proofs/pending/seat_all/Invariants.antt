use Rattle.std.proofs.Common.{◌≡◌, length}
use Rattle.die_sim.specs.Pending.{SeatedTo}
use Rattle.die_sim.proofs.pending.seat_all.Given as goal

abbrev pub invariant-loop-place : goal.invariant-loop-place
invariant-loop-place l = record {
  seated : SeatedTo l.net.order l.places.items l.bits l.place;
  places : length l.places.items ≡ length l.net.net.names;
  size : length l.bits ≡ length l.fn.bits;
}
