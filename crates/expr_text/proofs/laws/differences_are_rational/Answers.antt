use Rattle.expr_text.proofs.RationalLemmas.{difference_is}
use Rattle.expr_text.proofs.laws.differences_are_rational.Goals as goal

pub returns : goal.returns
returns c = difference_is
