use Rattle.std.proofs.Common.{◌≡◌, drop}
use Rattle.std.specs.Prelude.{is_some}
use Rattle.std.specs.List.{list_all}
use Rattle.stil_ast.specs.Data.Texts.{indices, indexed}
use Rattle.signal_groups.specs.Lookup.{number_in}
use Rattle.signal_groups.proofs.items.is_range_known.Given as goal

abbrev pub invariant-loop-place : goal.invariant-loop-place
invariant-loop-place l =
    list_all (λ i. is_some (number_in l.fn.table.texts (indexed l.fn.name i))) (drop l.place (indices l.fn.range))
    ≡ list_all (λ i. is_some (number_in l.fn.table.texts (indexed l.fn.name i))) (indices l.fn.range)
