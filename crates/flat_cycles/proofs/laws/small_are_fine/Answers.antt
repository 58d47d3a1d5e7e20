use Rattle.time_expr.specs.TimesOf.{times_of}
use Rattle.flat_fine.proofs.TimeLemmas.{time_is}
use Rattle.flat_cycles.proofs.CompileLemmas.{small_are_fine}
use Rattle.flat_cycles.proofs.laws.small_are_fine.Goals as goal

pub returns : goal.returns
returns c = small_are_fine times_of time_is
