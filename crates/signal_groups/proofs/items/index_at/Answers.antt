use Rattle.std.proofs.Common.{arith}
use Rattle.signal_groups.proofs.RangeLemmas.{length-indices_up, length-indices_down, get_or-indices_up, get_or-indices_down}
use Rattle.signal_groups.proofs.items.index_at.Goals as goal

pub overflow_cast-result : goal.overflow_cast-result
overflow_cast-result c = omega (arith, length-indices_up c.args.range c.if-range.true, c.requires, c.well_formed)

pub overflow_add-result : goal.overflow_add-result
overflow_add-result c = omega (arith, length-indices_up c.args.range c.if-range.true, c.requires, c.well_formed)

pub overflow_cast-result-else-range : goal.overflow_cast-result-else-range
overflow_cast-result-else-range c = omega (arith, length-indices_down c.args.range c.if-range.false, c.requires, c.well_formed)

pub overflow_sub-result : goal.overflow_sub-result
overflow_sub-result c = omega (arith, length-indices_down c.args.range c.if-range.false, c.requires)

pub returns-then-range : goal.returns-then-range
returns-then-range c = get_or-indices_up c.args.range c.args.place c.if-range.true c.requires

pub returns-else-range : goal.returns-else-range
returns-else-range c = get_or-indices_down c.args.range c.args.place c.if-range.false c.requires
