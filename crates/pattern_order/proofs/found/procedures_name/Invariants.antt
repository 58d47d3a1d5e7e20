use Rattle.std.proofs.Common.{◌≡◌, drop}
use Rattle.stil_ast.specs.Meaning.Bursts.{procedures_name}
use Rattle.pattern_order.proofs.found.procedures_name.Given as goal

abbrev pub invariant-loop-item : goal.invariant-loop-item
invariant-loop-item l = procedures_name (drop l.item-index l.items) l.round ≡ procedures_name l.items l.round
