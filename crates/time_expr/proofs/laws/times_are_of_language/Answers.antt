use Rattle.time_expr.proofs.TimesLemmas.{times_of_is}
use Rattle.time_expr.proofs.laws.times_are_of_language.Goals as goal

pub returns : goal.returns
returns c = times_of_is
