use Rattle.std.proofs.Common.{◌≡◌, ◌++◌, map, drop}
use Rattle.stil_ast.specs.Meaning.GroupReading.{terms_of}
use Rattle.stil_ast.specs.Meaning.Signals.{Group}
use Rattle.signal_groups.specs.Lookup.{terms_kind}
use Rattle.signal_groups.specs.Graph.{needed_in}
use Rattle.signal_groups.specs.Located.{group_at}
use Rattle.signal_groups.proofs.read.read_groups.Given as goal

abbrev pub invariant-loop-group : goal.invariant-loop-group
invariant-loop-group l = record {
  kinds : l.kinds.items
      ++ map (λ (g : Group). terms_kind l.fn.table (terms_of g.text)) (map group_at (drop l.group-index l.groups))
      ≡ map (λ (g : Group). terms_kind l.fn.table (terms_of g.text)) (map group_at l.groups);
  graph : l.graph.items
      ++ map (λ (g : Group). needed_in l.fn.table.texts l.fn.table.groups (terms_of g.text)) (map group_at (drop l.group-index l.groups))
      ≡ map (λ (g : Group). needed_in l.fn.table.texts l.fn.table.groups (terms_of g.text)) (map group_at l.groups);
}
