use Rattle.std.proofs.Common.{sym, subst}
use Rattle.std.specs.Prelude.{All}
use Rattle.lot_plan.proofs.PlanLemmas.{IsPrinting, files_of-printing}
use Rattle.lot_plan.proofs.plan.Plan.files.Goals as goal

pub returns-clause-printing : goal.returns-clause-printing
returns-clause-printing c =
    subst (All IsPrinting) (sym c.self.invariant.named) (files_of-printing c.self.inside.rows c.self.invariant.kept)
