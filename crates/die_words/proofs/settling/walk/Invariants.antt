use Rattle.std.proofs.Common.{◌-◌, length}
use Rattle.die_words.specs.Fits.{GatesWait, AreDoneTo}
use Rattle.die_words.proofs.settling.walk.Given as goal

abbrev pub invariant-loop-place : goal.invariant-loop-place
invariant-loop-place l = record {
  done : AreDoneTo l.net l.forces l.fn.words.items l.words.items l.place;
  waits : GatesWait l.net l.forces l.words.items l.pending;
}

abbrev pub decreases-loop-place : goal.decreases-loop-place
decreases-loop-place l = length l.net.order - l.place
