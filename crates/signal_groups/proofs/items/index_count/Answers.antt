use Rattle.std.proofs.Common.{arith}
use Rattle.signal_groups.proofs.RangeLemmas.{length-indices_up, length-indices_down}
use Rattle.signal_groups.proofs.items.index_count.Goals as goal

pub returns-then-range-clause-count : goal.returns-then-range-clause-count
returns-then-range-clause-count c = omega (arith, c.from.ensures, length-indices_up c.args.range c.if-range.true)

pub returns-else-range-clause-count : goal.returns-else-range-clause-count
returns-else-range-clause-count c = omega (arith, c.from-else-range.ensures, length-indices_down c.args.range c.if-range.false)
