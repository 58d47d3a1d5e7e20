use Rattle.std.proofs.Common.{arith}
use Rattle.lot_plan.proofs.StoreLemmas.{stored_dies-within}
use Rattle.lot_plan.proofs.bound_plan.BoundPlan.dies.Goals as goal

pub overflow_cast-result : goal.overflow_cast-result
overflow_cast-result c =
    let few = stored_dies-within _ c.self.inside.sites c.args.site c.index-as_slice-site.result c.self.invariant.bound
    c.self.invariant.dies
    (rw (← c.self.view_is) at c.requires) (rw c.as_slice.ensures at c.index-as_slice-site.is) in
    omega (arith, few, c.len.ensures)
