use Rattle.die_sim.specs.Waiting.{AreLinkedTo}
use Rattle.die_sim.proofs.waiting.links.Given as goal

abbrev pub invariant-loop-place : goal.invariant-loop-place
invariant-loop-place l = AreLinkedTo l.net.net.drivers l.nets l.firsts.items l.nexts.items l.place
