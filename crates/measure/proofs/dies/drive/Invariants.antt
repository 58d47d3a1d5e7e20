use Rattle.std.proofs.Common.{◌≡◌}
use Rattle.die_sim.specs.Die.{bind_at}
use Rattle.die_sim.specs.declared.image.Bind.TheVariants as bind
use Rattle.measure.proofs.dies.drive.Given as goal

abbrev pub invariant-loop-moment : goal.invariant-loop-moment
invariant-loop-moment l = bind_at l.die.device.binds 0 ≡ bind.Input 0
