use Rattle.std.proofs.Common.{sym, ◌∙◌}
use Rattle.time_expr.proofs.ReachLemmas.{value-reaches}
use Rattle.time_expr.proofs.stop.expr_value.Goals as goal

pub returns-in-Ok : goal.returns-in-Ok
returns-in-Ok c =
    value-reaches c.args.variables.now c.args.vars.now c.args.expr.now c.in-Ok.value (sym c.value.ensures ∙ c.in-Ok.is)

pub returns-in-Err : goal.returns-in-Err
returns-in-Err c = c.stop_of.ensures (sym c.value.ensures ∙ c.in-Err.is)
