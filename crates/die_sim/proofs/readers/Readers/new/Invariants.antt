use Rattle.die_sim.specs.Readers.{AreReadersTo}
use Rattle.die_sim.proofs.readers.Readers.new.Given as goal

abbrev pub invariant-loop-n : goal.invariant-loop-n
invariant-loop-n l = AreReadersTo l.net l.starts.items l.places.items l.n
