use Rattle.std.proofs.Common.{◌≡◌, ◌++◌, drop, map, flat_map}
use Rattle.time_expr.specs.Selected.{named}
use Rattle.time_expr.specs.Picked.{variables_of, picked_spec}
use Rattle.time_expr.proofs.picked.picked_in_specs.Given as goal

abbrev pub invariant-loop-spec : goal.invariant-loop-spec
invariant-loop-spec l =
    variables_of l.picked.items ++ flat_map (picked_spec l.taken (map named l.categories)) (drop l.spec-index l.specs)
    ≡ flat_map (picked_spec l.taken (map named l.categories)) l.specs
