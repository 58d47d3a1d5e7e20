use Rattle.std.proofs.Common.{◌∙◌}
use Rattle.std.proofs.lemmas.Result.{err_from_is_err_and}
use Rattle.lot_plan.proofs.plan.Plan.read.Goals as goal

pub returns-in_err-rows-clause-only : goal.returns-in_err-rows-clause-only
returns-in_err-rows-clause-only c = λ rows is.
    let p = err_from_is_err_and c.from_residual.result c.from_residual.ensures.1 in
    rw (p.1, p.2) (c.in_err-rows.ensures.only rows is)

pub returns-clause-only : goal.returns-clause-only
returns-clause-only c = λ rows is. c.in_ok-of.ensures ∙ c.in_ok-rows.ensures.only rows is
