use Rattle.std.proofs.Common.{◌∙◌, sym, ap}
use Rattle.die_sim.specs.Die.{Image}
use Rattle.fault_grade.specs.Grade.{first_site}
use Rattle.fault_grade.proofs.DieLemmas.{first-die, circuit-of_plan}
use Rattle.fault_grade.proofs.die.first_net.Goals as goal

pub returns : goal.returns
returns c =
    let plan = c.args.plan.now in
    c.deref.ensures ∙ ap (λ (i : Image). i.circuit) (c.behind-plan.view_is ∙ c.first_image.ensures)
    ∙ sym (circuit-of_plan plan (first_site plan) (first-die plan c.requires))
