use Rattle.std.proofs.Common.{length}
use Rattle.die_words.proofs.FaultLemmas.{AreLaid}
use Rattle.die_words.proofs.faults.put_faults.Given as goal

abbrev pub invariant-loop-lane : goal.invariant-loop-lane
invariant-loop-lane l = AreLaid (length l.fn.forces.items) l.faults l.forces.items l.lane
