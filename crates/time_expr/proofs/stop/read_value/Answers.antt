use Rattle.time_expr.proofs.ReachLemmas.{spelled-reaches, refused-reaches}
use Rattle.time_expr.proofs.stop.read_value.Goals as goal

pub returns-in-Ok : goal.returns-in-Ok
returns-in-Ok c =
    spelled-reaches c.args.variables.now c.args.vars.now c.args.text.now c.in-Ok.expr c.expr_value.result
    c.in-Ok.ensures.found c.expr_value.ensures

pub returns-in-Err : goal.returns-in-Err
returns-in-Err c =
    refused-reaches c.args.variables.now c.args.vars.now c.args.text.now c.in-Err.fault c.stop_at.result c.in-Err.ensures.fault
    c.stop_at.ensures
