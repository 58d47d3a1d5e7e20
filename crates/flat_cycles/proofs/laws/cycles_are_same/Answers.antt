use Rattle.time_expr.specs.TimesOf.{times_of}
use Rattle.flat_fine.proofs.TimeLemmas.{time_is}
use Rattle.flat_cycles.proofs.EntryLemmas.{same_cycles}
use Rattle.flat_cycles.proofs.laws.cycles_are_same.Goals as goal

pub returns : goal.returns
returns c = same_cycles times_of time_is
