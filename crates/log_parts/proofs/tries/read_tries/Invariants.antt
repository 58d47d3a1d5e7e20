use Rattle.std.proofs.Common.{length}
use Rattle.log_parts.specs.Step.{TriesAreRead}
use Rattle.log_parts.proofs.tries.read_tries.Given as goal

abbrev pub invariant-loop-lines : goal.invariant-loop-lines
invariant-loop-lines l = TriesAreRead l.number l.fn.lines l.lines

abbrev pub decreases-loop-lines : goal.decreases-loop-lines
decreases-loop-lines l = length l.lines.rest
