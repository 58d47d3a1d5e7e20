use Rattle.expr_text.proofs.RationalLemmas.{product_is}
use Rattle.expr_text.proofs.laws.products_are_rational.Goals as goal

pub returns : goal.returns
returns c = product_is
