use Rattle.std.proofs.Common.{◌≡◌, subst, map}
use Rattle.std.specs.Arc.{arc_value}
use Rattle.lot_plan.specs.Bound.{Bound, binding_to}
use Rattle.lot_plan.proofs.StoreLemmas.{stored_binding}
use Rattle.lot_plan.proofs.bound_plan.BoundPlan.binding.Goals as goal

pub returns : goal.returns
returns c = stored_binding arc_value c.args.self.now c.self.inside.bindings c.args.site c.args.die c.die.result.now.file
    c.index-as_slice-die.result
    (subst (λ (v : Bound). map arc_value c.self.inside.bindings ≡ map (binding_to v) v.circuits) c.self.view_is
    c.self.invariant.wired)
    c.die.ensures.file c.die.ensures.there (rw c.as_slice.ensures at c.index-as_slice-die.is)
