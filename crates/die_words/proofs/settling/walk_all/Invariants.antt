use Rattle.die_sim.specs.Pending.{AreSeats}
use Rattle.die_words.specs.Fits.{AreDoneTo}
use Rattle.die_words.proofs.settling.walk_all.Given as goal

abbrev pub invariant-loop-place : goal.invariant-loop-place
invariant-loop-place l = record {
  done : AreDoneTo l.net l.forces l.fn.words.items l.words.items l.place;
  seats : AreSeats l.net.order l.pending;
}
