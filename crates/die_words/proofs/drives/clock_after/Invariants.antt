use Rattle.std.proofs.Common.{◌≡◌, take}
use Rattle.die_sim.specs.Moment.{clock_after}
use Rattle.die_words.proofs.drives.clock_after.Given as goal

abbrev pub invariant-loop-signal : goal.invariant-loop-signal
invariant-loop-signal l = l.level ≡ clock_after l.fn.bind.clock l.fn.was (take l.signal-index l.drives)
