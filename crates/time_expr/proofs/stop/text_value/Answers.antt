use Rattle.time_expr.proofs.ReachLemmas.{spelled-reaches}
use Rattle.time_expr.proofs.stop.text_value.Goals as goal

pub returns-in-Some : goal.returns-in-Some
returns-in-Some c =
    spelled-reaches c.args.variables.now c.args.vars.now c.args.text.now c.in-Some.expr.now c.expr_value.result
    (rw c.in-Some.is at c.kept.ensures) c.expr_value.ensures
