use Rattle.expr_text.proofs.LowestLemmas.{whole-is}
use Rattle.expr_text.proofs.fraction.Fraction.whole.Goals as goal

pub invariant_of-result : goal.invariant_of-result
invariant_of-result c = whole-is c.args.number c.requires
