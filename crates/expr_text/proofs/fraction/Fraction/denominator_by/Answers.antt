use Rattle.std.proofs.Common.{◌≢◌, pos, sym, ap, ◌∙◌}
use Rattle.expr_text.specs.Ratio.{Ratio}
use Rattle.expr_text.proofs.LowestLemmas.{divisor-nonzero}
use Rattle.expr_text.proofs.fraction.Fraction.denominator_by.Goals as goal

pub returns-clause-not_zero : goal.returns-clause-not_zero
returns-clause-not_zero c =
    let other : c.other.inside.numerator ≢ pos 0 =
    λ e. c.requires (ap (λ (r : Ratio). r.numerator) (sym c.other.view_is) ∙ e) in
    divisor-nonzero c.self.inside.denominator c.other.inside.numerator _ c.self.invariant.positive other
    c.self.invariant.below_fits c.other.invariant.above_fits c.product.ensures.value
