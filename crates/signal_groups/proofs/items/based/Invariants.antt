use Rattle.std.proofs.Common.{◌≡◌, ◌++◌, map, filter, drop}
use Rattle.std.specs.List.{enumerate_from}
use Rattle.stil_ast.specs.Meaning.Members.{is_based_on}
use Rattle.signal_groups.specs.Lookup.{based_in}
use Rattle.signal_groups.proofs.items.based.Given as goal

abbrev pub invariant-loop-signal : goal.invariant-loop-signal
invariant-loop-signal l =
    l.found.items
    ++ map (λ s. s.0) (filter (λ s. is_based_on l.fn.name s.1) (enumerate_from l.signal (drop l.signal l.fn.table.bases)))
    ≡ based_in l.fn.table.bases l.fn.name
