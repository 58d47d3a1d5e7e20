use Rattle.signal_groups.proofs.LexedLemmas.{small_number, large_number}
use Rattle.signal_groups.proofs.term.short_number.Goals as goal

pub returns-then-number-le4294967295 : goal.returns-then-number-le4294967295
returns-then-number-le4294967295 c = small_number c.args.digits.now c.number_of-number.result c.number_of-number.ensures c.if-number-le4294967295.true

pub returns-else-number-le4294967295 : goal.returns-else-number-le4294967295
returns-else-number-le4294967295 c = large_number c.args.digits.now c.number_of-number.result c.number_of-number.ensures c.if-number-le4294967295.false
