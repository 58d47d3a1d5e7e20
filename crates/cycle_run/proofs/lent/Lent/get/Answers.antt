use Rattle.std.proofs.Common.{◌≡◌, ℕ, List, Option, IfSome, sym, subst}
use Rattle.tester_types.specs.declared.cycle.Moment.{Moment}
use Rattle.cycle_run.specs.Step.{schedule_of}
use Rattle.cycle_run.specs.Lent.{HoldsMoments}
use Rattle.cycle_run.proofs.LentLemmas.{found_held, lent_found}
use Rattle.cycle_run.proofs.lent.Lent.get.Goals as goal

pub returns : goal.returns
returns c = λ code skews all.
    lent_found c.get.result (λ (m : List Moment). m ≡ schedule_of code skews (c.args.table, c.args.row))
    (subst (λ (o : Option (List Moment)). IfSome o (λ m. m ≡ schedule_of code skews (c.args.table, c.args.row)))
    (sym c.get.ensures.value)
    (found_held code skews c.self.inside.moments.entries (c.args.table, c.args.row)
    (subst (λ (l : List ((ℕ × ℕ) × List Moment)). HoldsMoments code skews l) (sym c.self.view_is) all)))
