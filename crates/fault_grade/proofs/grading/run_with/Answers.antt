use Rattle.std.proofs.Common.{◌≡◌, ◌∙◌, ℤ, IfOk, List, length, ap, arith, sym, subst}
use Rattle.packed_code.specs.Program.{Program}
use Rattle.die_sim.specs.Die.{Image}
use Rattle.lot_plan.specs.Bound.{image_of}
use Rattle.lot_plan.specs.Skews.{site_skews}
use Rattle.cycle_run.specs.Setup.{code_in}
use Rattle.fault_grade.specs.Grade.{first_site}
use Rattle.fault_grade.specs.Search.{bare, run_on}
use Rattle.fault_grade.specs.declared.graded.Graded.{Graded}
use Rattle.fault_grade.proofs.DieLemmas.{first-die, nets-of_plan, run-of_plan}
use Rattle.fault_grade.proofs.grading.run_with.Goals as goal

pub set_up-setup-requires-clause-image : goal.set_up-setup-requires-clause-image
set_up-setup-requires-clause-image c = ap bare c.first_image.ensures

pub try_run-requires-clause-within : goal.try_run-requires-clause-within
try_run-requires-clause-within c =
    let plan = c.args.plan.now in
    let nets = nets-of_plan plan (first_site plan) (first-die plan c.requires.die) in
    let same = ap (λ (i : Image). length i.circuit.net.names) (c.set_up-setup.ensures.image ∙ c.first_image.ensures) in
    omega (arith, nets, same, c.requires.within)

pub returns : goal.returns
returns c =
    let plan = c.args.plan.now in
    let setup = c.set_up-setup.result in
    let site = first_site plan in
    let from = c.args.from in
    let to = c.args.to in
    let is = ap (λ (l : List ℤ). run_on (code_in setup) l setup.image.now from to) c.set_up-setup.ensures.skews
    ∙ ap (λ (i : Image). run_on (code_in setup) (site_skews plan site) i from to) (c.set_up-setup.ensures.image ∙ c.first_image.ensures)
    ∙ ap (λ (p : Program). run_on p (site_skews plan site) (image_of plan site 0 1) from to) (c.set_up-setup.ensures.code ∙ sym c.requires.one_program)
    ∙ sym (run-of_plan plan site (first-die plan c.requires.die) from to) in
    subst (λ (l : List Graded). IfOk c.try_run.result (λ list. list ≡ l)) is c.try_run.ensures
