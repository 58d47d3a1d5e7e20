use Rattle.std.proofs.Common.{◌∙◌, ℤ, IfSome, List, length, ap, sym, subst}
use Rattle.packed_code.specs.Program.{Program}
use Rattle.bench_net.specs.Circuit.{Circuit, IsWhole}
use Rattle.die_sim.specs.Die.{Image}
use Rattle.site_meaning.proofs.ImageLemmas.{image-long, image-whole}
use Rattle.cycle_run.specs.Step.{FitCode}
use Rattle.cycle_run.specs.Lent.{HoldsMoments}
use Rattle.fault_grade.specs.Grade.{first_site}
use Rattle.fault_grade.proofs.DieLemmas.{first-die, code-fits}
use Rattle.fault_grade.proofs.grading.set_up.Goals as goal

pub returns-clause-set_up : goal.returns-clause-set_up
returns-clause-set_up c =
    let plan = c.args.plan.now in
    let code = c.args.code.now in
    let site = first_site plan in
    let bound = c.sites-sites.ensures.bound in
    let planned = first-die plan c.requires.die in
    record {
      whole = subst (λ (n : Circuit). IsWhole n) (sym (ap (λ (i : Image). i.circuit) c.requires.image)) (image-whole plan site 0 1 bound planned);
      signals = ap (λ (i : Image). length i.binds) c.requires.image ∙ image-long plan site 0 1 bound planned
          ∙ ap (λ (p : Program). length p.signals) c.requires.one_program;
      skews_fit = subst (λ (l : List ℤ). FitCode code l) (sym c.first_skews.ensures)
          (code-fits plan site code c.signals-signals.ensures.conditions c.requires.one_program bound);
      lent = subst (λ (l : List ℤ). IfSome c.args.lent (λ moments. HoldsMoments code l moments.now)) (sym c.first_skews.ensures) c.requires.lent;
    }
