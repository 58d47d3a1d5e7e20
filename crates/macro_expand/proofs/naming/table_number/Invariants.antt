use Rattle.std.proofs.Common.{◌≡◌, ◌+◌, drop, map}
use Rattle.std.specs.List.{position_or_len}
use Rattle.stil_ast.specs.Data.Texts.{same}
use Rattle.tester_types.specs.declared.wave.Table.{Table}
use Rattle.macro_expand.proofs.naming.table_number.Given as goal

abbrev pub invariant-loop-number : goal.invariant-loop-number
invariant-loop-number l =
    l.number + position_or_len (same l.name) (map (λ (t : Table). t.name) (drop l.number l.tables))
    ≡ position_or_len (same l.name) (map (λ (t : Table). t.name) l.tables)
