use Rattle.std.proofs.Common.{ℤ, List, IfOk, sym, subst}
use Rattle.cycle_run.specs.Step.{FitCode}
use Rattle.fault_grade.specs.Grade.{first_site}
use Rattle.cycle_run.specs.Lent.{HoldsMoments}
use Rattle.fault_grade.proofs.DieLemmas.{code-fits}
use Rattle.fault_grade.proofs.grading.first_lent.Goals as goal

pub make-requires : goal.make-requires
make-requires c =
    let plan = c.args.plan.now in
    subst (λ (l : List ℤ). FitCode c.args.code.now l) (sym c.first_skews.ensures)
    (code-fits plan (first_site plan) c.args.code.now c.signals-signals.ensures.conditions c.requires.one_program
    c.sites-sites.ensures.bound)

pub returns : goal.returns
returns c =
    subst (λ (l : List ℤ). IfOk c.make.result (λ lent. HoldsMoments c.args.code.now l lent)) c.first_skews.ensures c.make.ensures
