use Rattle.std.proofs.Common.{◌≡◌, ◌++◌, map, drop}
use Rattle.std.specs.List.{flat_map}
use Rattle.stil_ast.specs.Meaning.Signals.{grouped}
use Rattle.stil_ast.specs.declared.signal.GroupBlock.{GroupBlock}
use Rattle.signal_groups.specs.Located.{group_at}
use Rattle.signal_groups.proofs.groups.groups_in.Given as goal

abbrev pub invariant-loop-block : goal.invariant-loop-block
invariant-loop-block l =
    map group_at l.found.items ++ flat_map (λ (b : GroupBlock). map (grouped b.name) b.groups) (drop l.block-index l.blocks)
    ≡ flat_map (λ (b : GroupBlock). map (grouped b.name) b.groups) l.blocks
