use Rattle.die_words.specs.Capture.{AreRegisters}
use Rattle.die_words.proofs.capture.Registers.of_net.Given as goal

abbrev pub invariant-loop-n : goal.invariant-loop-n
invariant-loop-n l = AreRegisters l.net.net.drivers l.nets.items l.sources.items l.n
