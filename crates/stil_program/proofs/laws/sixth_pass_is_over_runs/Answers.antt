use Rattle.time_expr.specs.TimesOf.{times_of}
use Rattle.stil_program.proofs.RunLemmas.{sixth_is_of_runs}
use Rattle.stil_program.proofs.laws.sixth_pass_is_over_runs.Goals as goal

pub returns : goal.returns
returns c = sixth_is_of_runs times_of
