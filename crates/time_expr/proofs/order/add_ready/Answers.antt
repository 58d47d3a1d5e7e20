use Rattle.time_expr.specs.Picked.{variable_of}
use Rattle.time_expr.proofs.ChoosingLemmas.{settled-known}
use Rattle.time_expr.proofs.order.add_ready.Goals as goal

pub returns : goal.returns
returns c =
    settled-known c.args.variables.now c.args.vars.now c.add.new.self (variable_of c.in-Some.found.0.now) c.in-Some.found.1
    c.requires c.in-Some.ensures c.in_ok-add.ensures.added
