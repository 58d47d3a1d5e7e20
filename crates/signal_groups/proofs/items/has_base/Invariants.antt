use Rattle.std.proofs.Common.{◌≡◌, drop}
use Rattle.std.specs.List.{list_any}
use Rattle.stil_ast.specs.Meaning.Members.{is_based_on}
use Rattle.signal_groups.proofs.items.has_base.Given as goal

abbrev pub invariant-loop-signal : goal.invariant-loop-signal
invariant-loop-signal l =
    list_any (is_based_on l.fn.name) (drop l.signal l.fn.table.bases) ≡ list_any (is_based_on l.fn.name) l.fn.table.bases
