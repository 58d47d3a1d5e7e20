use Rattle.die_sim.proofs.MomentLemmas.{CapturedTo}
use Rattle.die_sim.proofs.moment.capture_each.Given as goal

abbrev pub invariant-loop-n : goal.invariant-loop-n
invariant-loop-n l = CapturedTo l.net.net.drivers l.fn.edge l.before l.fn.held.items l.held.items l.nets l.n-index
