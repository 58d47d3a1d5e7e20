use Rattle.std.proofs.Common.{◌≡◌, take}
use Rattle.std.specs.List.{flat_map}
use Rattle.flat_parts.specs.Order.{tables_in, firsts}
use Rattle.flat_stil.proofs.order.all_tables.Given as goal

abbrev pub invariant-loop-exec : goal.invariant-loop-exec
invariant-loop-exec l = l.tables ≡ firsts (flat_map tables_in (take l.exec l.code.execs))
