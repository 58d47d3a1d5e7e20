use Rattle.time_expr.proofs.NamedLemmas.{value_by-value_of}
use Rattle.time_expr.proofs.laws.names_are_variables.Goals as goal

pub returns : goal.returns
returns c = value_by-value_of
