use Rattle.vcd_dump.proofs.GrowLemmas.{try_is_taped, touchdown_is_taped}
use Rattle.vcd_dump.proofs.laws.first_tries_are_taped.Goals as goal

pub returns-clause-try_of : goal.returns-clause-try_of
returns-clause-try_of c = try_is_taped

pub returns-clause-touchdown : goal.returns-clause-touchdown
returns-clause-touchdown c = touchdown_is_taped
