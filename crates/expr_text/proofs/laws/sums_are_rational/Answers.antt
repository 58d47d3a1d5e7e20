use Rattle.expr_text.proofs.RationalLemmas.{sum_is}
use Rattle.expr_text.proofs.laws.sums_are_rational.Goals as goal

pub returns : goal.returns
returns c = sum_is
