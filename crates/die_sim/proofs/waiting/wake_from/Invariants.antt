use Rattle.die_sim.proofs.WaitingLemmas.{WakesTo}
use Rattle.die_sim.proofs.waiting.wake_from.Given as goal

abbrev pub invariant-loop-link : goal.invariant-loop-link
invariant-loop-link l = WakesTo l.nexts l.fn.first l.link l.fn.bits l.bits

abbrev pub decreases-loop-link : goal.decreases-loop-link
decreases-loop-link l = l.link
