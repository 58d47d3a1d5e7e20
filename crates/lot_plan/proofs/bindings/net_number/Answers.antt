use Rattle.std.proofs.Common.{◌∙◌}
use Rattle.lot_plan.proofs.NetLemmas.{number-found, number-none}
use Rattle.lot_plan.proofs.bindings.net_number.Goals as goal

pub returns-in-Some : goal.returns-in-Some
returns-in-Some c = number-found c.args.net.now c.args.name.now c.in-Some.number c.nets-nets.ensures.whole
    c.in-Some.ensures.found

pub returns-in-None : goal.returns-in-None
returns-in-None c = c.nets-nets.ensures.count ∙ number-none c.args.net.now.net.names c.args.name.now c.in-None.ensures.none
