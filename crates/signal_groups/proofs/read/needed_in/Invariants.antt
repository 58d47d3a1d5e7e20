use Rattle.std.proofs.Common.{◌≡◌, ◌++◌, map, drop}
use Rattle.std.specs.List.{filter_map}
use Rattle.signal_groups.specs.Lexed.{term_of}
use Rattle.signal_groups.specs.Graph.{needed_by}
use Rattle.signal_groups.proofs.read.needed_in.Given as goal

abbrev pub invariant-loop-term : goal.invariant-loop-term
invariant-loop-term l =
    l.needs.items ++ filter_map (needed_by l.fn.table.texts l.fn.table.groups) (map term_of (drop l.term-index l.terms))
    ≡ filter_map (needed_by l.fn.table.texts l.fn.table.groups) (map term_of l.terms)
