use Rattle.std.proofs.Common.{sym}
use Rattle.time_expr.specs.Picked.{variable_of, place_of}
use Rattle.time_expr.proofs.ChoosingLemmas.{open-named, walked-named}
use Rattle.time_expr.proofs.choosing.next_value.Goals as goal

pub walk-requires-clause-start : goal.walk-requires-clause-start
walk-requires-clause-start c =
    open-named c.args.variables.now c.args.vars.now c.args.name.now (variable_of c.in-Some.variable.now)
    (sym c.in-Some.ensures) c.requires.open

pub returns-in-Some : goal.returns-in-Some
returns-in-Some c =
    walked-named c.args.variables.now c.args.vars.now (place_of c.args.spot) c.args.name.now
    (variable_of c.in-Some.variable.now) c.walk.result (sym c.in-Some.ensures) c.walk.ensures
