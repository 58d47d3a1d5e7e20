use Rattle.std.proofs.Common.{ap, ◌∙◌, Err}
use Rattle.time_expr.proofs.ReachLemmas.{stop-reaches, fault-reaches}
use Rattle.time_expr.proofs.stop.stop_of.Goals as goal

pub returns-in-UnknownName : goal.returns-in-UnknownName
returns-in-UnknownName c = λ is.
    stop-reaches c.args.variables.now c.args.vars.now c.args.expr.now c.stop_at_name.result (is ∙ ap Err c.in-UnknownName.is)
    c.stop_at_name.ensures

pub returns-in_default : goal.returns-in_default
returns-in_default c = λ is.
    fault-reaches c.args.variables.now c.args.vars.now c.args.expr.now c.args.fault c.kind_of.result is
    c.in_default.not-UnknownName c.kind_of.ensures
