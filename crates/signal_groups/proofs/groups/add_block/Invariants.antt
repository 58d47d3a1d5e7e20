use Rattle.std.proofs.Common.{◌≡◌, ◌++◌, map, drop}
use Rattle.stil_ast.specs.Meaning.Signals.{grouped}
use Rattle.signal_groups.specs.Located.{group_at}
use Rattle.signal_groups.proofs.groups.add_block.Given as goal

abbrev pub invariant-loop-decl : goal.invariant-loop-decl
invariant-loop-decl l =
    map group_at l.found.items ++ map (grouped l.block.name) (drop l.decl-index l.decl-items)
    ≡ map group_at l.fn.found.items ++ map (grouped l.block.name) l.fn.block.groups
