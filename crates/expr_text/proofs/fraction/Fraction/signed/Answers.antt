use Rattle.expr_text.proofs.LowestLemmas.{signed-negative, signed-positive}
use Rattle.expr_text.proofs.fraction.Fraction.signed.Goals as goal

pub returns-then-below-lt0 : goal.returns-then-below-lt0
returns-then-below-lt0 c =
    signed-negative _ _ c.negated.result c.negated-then-below-lt0.result _ c.ranges.above c.ranges.below
    (record { sfits = c.negated.type_inv }) (record { sfits = c.negated-then-below-lt0.type_inv })
    c.if-below-lt0.true c.negated.ensures c.negated-then-below-lt0.ensures c.new.ensures

pub returns-else-below-lt0 : goal.returns-else-below-lt0
returns-else-below-lt0 c =
    signed-positive _ _ _ c.ranges.above c.ranges.below c.if-below-lt0.false c.new-else-below-lt0.ensures
