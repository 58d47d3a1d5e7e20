use Rattle.std.proofs.Common.{◌∙◌, length, ap, arith}
use Rattle.bench_net.specs.Circuit.{Circuit}
use Rattle.die_sim.specs.Die.{Image}
use Rattle.fault_grade.specs.Grade.{first_site}
use Rattle.fault_grade.proofs.DieLemmas.{first-die, nets-of_plan}
use Rattle.fault_grade.proofs.die.fault_count.Goals as goal

pub returns-clause-count : goal.returns-clause-count
returns-clause-count c =
    let plan = c.args.plan.now in
    let nets = nets-of_plan plan (first_site plan) (first-die plan c.requires) in
    let same = ap (λ (i : Image). length i.circuit.net.names) (c.behind-plan.view_is ∙ c.first_image.ensures) in
    let own = ap (λ (n : Circuit). length n.net.names) c.deref.ensures in
    omega (arith, nets, same, own, c.nets.ensures.count)
