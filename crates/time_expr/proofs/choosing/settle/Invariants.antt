use Rattle.std.proofs.Common.{count_by}
use Rattle.time_expr.specs.Choosing.{AreKnown, KeepsValues, has_no_value}
use Rattle.time_expr.proofs.choosing.settle.Given as goal

abbrev pub invariant-loop-alloc : goal.invariant-loop-alloc
invariant-loop-alloc l = record {
  known : AreKnown l.variables l.vars;
  kept : KeepsValues l.fn.vars l.vars;
}

-- each turn gives a value to a variable
abbrev pub decreases-loop-alloc : goal.decreases-loop-alloc
decreases-loop-alloc l = count_by (has_no_value l.vars) l.variables
