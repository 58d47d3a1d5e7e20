use Rattle.std.proofs.Common.{◌≡◌}
use Rattle.expr_text.specs.Range.{divisor_of}
use Rattle.expr_text.proofs.bounded.greatest_divisor.Given as goal

abbrev pub invariant-loop-y : goal.invariant-loop-y
invariant-loop-y l = divisor_of l.x l.y ≡ divisor_of l.fn.a l.fn.b

abbrev pub decreases-loop-y : goal.decreases-loop-y
decreases-loop-y l = l.y
