use Rattle.std.proofs.Common.{◌∙◌, ℤ, List, length, sym, ap, subst}
use Rattle.packed_code.specs.Program.{Program}
use Rattle.packed_code.specs.Conditions.{IsProgram}
use Rattle.bench_net.specs.Circuit.{IsWhole}
use Rattle.die_sim.specs.Die.{Image}
use Rattle.lot_plan.specs.Skews.{site_skews}
use Rattle.site_meaning.proofs.ImageLemmas.{image-whole, image-long}
use Rattle.cycle_run.specs.Step.{FitCode}
use Rattle.cycle_run.proofs.FitLemmas.{skews_fit}
use Rattle.vcd_dump.proofs.tape.set_up.Goals as goal

pub returns-clause-set_up : goal.returns-clause-set_up
returns-clause-set_up c =
    let plan = c.args.plan.now in
    let bound = c.sites-bound.ensures.bound in
    let program = subst (λ (p : Program). IsProgram p) (sym c.requires.one_program) c.signals-conditions.ensures.conditions in
    record {
      whole = subst (λ (i : Image). IsWhole i.circuit) (sym c.image.ensures) (image-whole plan c.args.site 0 1 bound c.requires.die);
      signals = ap (λ (i : Image). length i.binds) c.image.ensures ∙ image-long plan c.args.site 0 1 bound c.requires.die
          ∙ ap (λ (p : Program). length p.signals) c.requires.one_program;
      skews_fit = subst (λ (l : List ℤ). FitCode c.args.code.now l) (sym c.skews.ensures)
          (subst (λ (p : Program). FitCode p (site_skews plan c.args.site)) c.requires.one_program
          (skews_fit plan c.args.site program bound));
      lent = tt;
    }
