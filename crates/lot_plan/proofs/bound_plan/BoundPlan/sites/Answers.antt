use Rattle.std.proofs.Common.{arith}
use Rattle.plan_rows.proofs.RowLemmas.{sites_of-within}
use Rattle.lot_plan.proofs.bound_plan.BoundPlan.sites.Goals as goal

pub overflow_cast-result : goal.overflow_cast-result
overflow_cast-result c = omega (
  arith,
  c.len.ensures,
  c.self.invariant.dies.count,
  sites_of-within c.self.inside.rows
      c.self.invariant.bound.kept,
)
