use Rattle.expr_text.proofs.RationalLemmas.{quotient_is}
use Rattle.expr_text.proofs.laws.quotients_are_rational.Goals as goal

pub returns : goal.returns
returns c = quotient_is
