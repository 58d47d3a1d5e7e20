use Rattle.std.proofs.Common.{sym}
use Rattle.text_bytes.specs.Texts.{is_among}
use Rattle.indexmap.specs.IndexSet.{keys}
use Rattle.time_expr.specs.Picked.{variable_of, place_of}
use Rattle.time_expr.proofs.ReachLemmas.{idle-steps}
use Rattle.time_expr.proofs.walk.look.Goals as goal

pub returns-clause-steps : goal.returns-clause-steps
returns-clause-steps c =
    idle-steps c.args.variables.now c.args.vars.now (variable_of c.args.here.now) (place_of c.args.spot)
    (is_among (keys c.args.running.now) c.args.here.now.name.now) (sym c.if-is_kept.ensures) c.own_step.result c.own_step.ensures
