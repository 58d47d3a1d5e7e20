use Rattle.time_expr.specs.TimesOf.{times_of}
use Rattle.flat_fine.proofs.TimeLemmas.{time_is}
use Rattle.flat_cycles.proofs.CompileLemmas.{only_too_large}
use Rattle.flat_cycles.proofs.laws.compiling_is_fine.Goals as goal

pub returns : goal.returns
returns c = only_too_large times_of time_is
