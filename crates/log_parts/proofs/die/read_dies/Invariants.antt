use Rattle.std.proofs.Common.{take}
use Rattle.log_parts.specs.Slices.{lent}
use Rattle.log_parts.specs.Step.{AreRead}
use Rattle.log_parts.proofs.die.read_dies.Given as goal

abbrev pub invariant-loop-name : goal.invariant-loop-name
invariant-loop-name l = AreRead (lent (take l.name-index l.names)) l.fn.lines l.lines l.fn.bins.items l.bins.items
