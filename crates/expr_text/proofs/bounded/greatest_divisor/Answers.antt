use Rattle.std.proofs.Common.{sym, ◌∙◌, arith}
use Rattle.expr_text.proofs.DivisorLemmas.{divisor_of-mod, divisor_of-zero}
use Rattle.expr_text.proofs.bounded.greatest_divisor.Goals as goal

pub loop-y-preserved : goal.loop-y-preserved
loop-y-preserved c = divisor_of-mod _ _ (omega arith) ∙ c.loop-y.invariant

pub returns : goal.returns
returns c = sym (divisor_of-zero _ _ (omega arith)) ∙ c.loop-y.invariant
