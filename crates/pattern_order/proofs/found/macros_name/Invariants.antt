use Rattle.std.proofs.Common.{◌≡◌, drop}
use Rattle.stil_ast.specs.Meaning.Bursts.{macros_name}
use Rattle.pattern_order.proofs.found.macros_name.Given as goal

abbrev pub invariant-loop-item : goal.invariant-loop-item
invariant-loop-item l = macros_name (drop l.item-index l.items) l.round ≡ macros_name l.items l.round
