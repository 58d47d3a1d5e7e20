use Rattle.std.proofs.Common.{◌≡◌, ◌++◌, drop}
use Rattle.std.specs.List.{filter_map}
use Rattle.stil_ast.specs.Data.Texts.{indices, indexed}
use Rattle.signal_groups.specs.Lookup.{number_in}
use Rattle.signal_groups.proofs.items.ranged.Given as goal

abbrev pub invariant-loop-place : goal.invariant-loop-place
invariant-loop-place l =
    l.found.items
    ++ filter_map (λ i. number_in l.fn.table.texts (indexed l.fn.name i)) (drop l.place (indices l.fn.range))
    ≡ filter_map (λ i. number_in l.fn.table.texts (indexed l.fn.name i)) (indices l.fn.range)
