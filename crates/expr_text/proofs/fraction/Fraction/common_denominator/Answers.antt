use Rattle.expr_text.proofs.LowestLemmas.{denominator-positive}
use Rattle.expr_text.proofs.fraction.Fraction.common_denominator.Goals as goal

pub returns-clause-positive : goal.returns-clause-positive
returns-clause-positive c =
    denominator-positive c.self.inside.denominator c.other.inside.denominator _
    c.self.invariant.positive c.other.invariant.positive
    c.self.invariant.below_fits c.other.invariant.below_fits c.product.ensures.value
