use Rattle.std.proofs.Common.{◌≡◌, ◌++◌, drop, map, flat_map}
use Rattle.stil_ast.specs.Meaning.Variables.{picked_category}
use Rattle.time_expr.specs.Selected.{named}
use Rattle.time_expr.specs.Picked.{variables_of, picked_spec}
use Rattle.time_expr.proofs.picked.add_spec.Given as goal

abbrev pub invariant-loop-category : goal.invariant-loop-category
invariant-loop-category l =
    variables_of l.picked.items
    ++ flat_map (picked_category l.taken (map named l.categories) l.spec.name) (drop l.category-index l.spec.categories)
    ≡ variables_of l.fn.picked.items ++ picked_spec l.taken (map named l.categories) l.spec
