use Rattle.std.proofs.Common.{sym, ◌∙◌}
use Rattle.signal_groups.proofs.LexedLemmas.{index_of-digits, index_of-other}
use Rattle.signal_groups.proofs.term.index_of.Goals as goal

pub returns-then-all_digits : goal.returns-then-all_digits
returns-then-all_digits c = c.short_number.ensures ∙ index_of-digits c.args.digits.now (sym c.if-all_digits.ensures)

pub returns-else-all_digits : goal.returns-else-all_digits
returns-else-all_digits c = index_of-other c.args.digits.now (sym c.if-all_digits.ensures)
