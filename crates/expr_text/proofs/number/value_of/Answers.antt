use Rattle.std.proofs.Common.{Some, length, sym, ap, ◌∙◌}
use Rattle.expr_text.proofs.NumberLemmas.{ranged-left, ranged-right, ranged-some}
use Rattle.expr_text.proofs.number.value_of.Goals as goal

pub returns-in_default : goal.returns-in_default
returns-in_default c = sym (ranged-left _ (length c.args.decimals.now) (sym c.all_digits.ensures.value ∙ c.in_default.is))

pub returns-in_default-power_of_ten : goal.returns-in_default-power_of_ten
returns-in_default-power_of_ten c =
    sym (ranged-right _ (length c.args.decimals.now) (sym c.power_of_ten.ensures.value ∙ c.in_default-power_of_ten.is))

pub returns : goal.returns
returns c =
    ap Some c.fraction.ensures
    ∙ ranged-some _ (length c.args.decimals.now) c.in-Some.above c.in-Some-power_of_ten.below (sym c.all_digits.ensures.value
    ∙ c.in-Some.is)
    (sym c.power_of_ten.ensures.value ∙ c.in-Some-power_of_ten.is)
