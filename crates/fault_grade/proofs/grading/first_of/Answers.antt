use Rattle.std.proofs.Common.{◌≡◌, ◌<◌, ◌∙◌, ℕ, ℤ, Option, IfOk, IfSome, List, length, ap, sym, subst}
use Rattle.std.specs.Prelude.{option_to_list}
use Rattle.packed_code.specs.Program.{Program}
use Rattle.die_sim.specs.Die.{Image}
use Rattle.lot_plan.specs.Bound.{image_of}
use Rattle.lot_plan.specs.Skews.{site_skews}
use Rattle.site_meaning.proofs.ImageLemmas.{image-whole}
use Rattle.cycle_run.specs.Setup.{code_in}
use Rattle.fault_grade.specs.Grade.{first_site}
use Rattle.word_run.specs.First.{first_on}
use Rattle.fault_grade.specs.Search.{bare}
use Rattle.fault_grade.proofs.DieLemmas.{first-die, first-of_plan, net-of_plan}
use Rattle.fault_grade.proofs.grading.first_of.Goals as goal

pub image_with-requires : goal.image_with-requires
image_with-requires c =
    let plan = c.args.plan.now in
    let site = first_site plan in
    let planned = first-die plan c.requires.die in
    subst (λ (i : Image). IfSome c.args.fault (λ f. f.net < length i.circuit.net.drivers)) (sym c.first_image.ensures)
    (net-of_plan plan site planned (image-whole plan site 0 1 c.sites-sites.ensures.bound planned) c.args.fault c.requires.net)

pub set_up-setup-requires-clause-image : goal.set_up-setup-requires-clause-image
set_up-setup-requires-clause-image c = ap bare c.in_ok-image.ensures ∙ ap bare c.first_image.ensures

pub returns : goal.returns
returns c =
    let plan = c.args.plan.now in
    let setup = c.set_up-setup.result in
    let site = first_site plan in
    let image_is = c.set_up-setup.ensures.image ∙ c.in_ok-image.ensures
    ∙ ap (λ (i : Image). record i { faults = option_to_list c.args.fault }) c.first_image.ensures in
    let is = ap (λ (l : List ℤ). first_on (code_in setup) l setup.image.now) c.set_up-setup.ensures.skews
    ∙ ap (first_on (code_in setup) (site_skews plan site)) image_is
    ∙ ap (λ (p : Program). first_on p (site_skews plan site)
    (record (image_of plan site 0 1) { faults = option_to_list c.args.fault })) (c.set_up-setup.ensures.code ∙ sym c.requires.one_program)
    ∙ sym (first-of_plan plan site (first-die plan c.requires.die) (option_to_list c.args.fault)) in
    subst (λ (o : Option ℕ). IfOk c.try_image.result (λ cycle. cycle ≡ o)) is c.try_image.ensures
