use Rattle.time_expr.proofs.ReachLemmas.{needs-steps}
use Rattle.time_expr.proofs.walk.step_in.Goals as goal

pub returns-in-Err-Needs : goal.returns-in-Err-Needs
returns-in-Err-Needs c =
    needs-steps c.args.variables.now c.args.vars.now c.args.text.now c.args.spot c.in-Err-Needs.next c.in-Err-Needs.field-0
    c.in-Err-Needs.field-0-is c.in-Err-Needs.ensures
