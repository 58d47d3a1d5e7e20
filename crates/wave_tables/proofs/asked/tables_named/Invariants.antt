use Rattle.std.proofs.Common.{◌≡◌, ◌++◌, take}
use Rattle.text_bytes.specs.Texts.{behind}
use Rattle.stil_ast.specs.Meaning.Tables.{tables_named}
use Rattle.wave_tables.proofs.asked.tables_named.Given as goal

abbrev pub invariant-loop-timing : goal.invariant-loop-timing
invariant-loop-timing l = behind l.tables.items ≡ tables_named (take l.timing-index l.timings) l.name

abbrev pub invariant-loop-table : goal.invariant-loop-table
invariant-loop-table l =
    behind l.tables.items ≡ behind l.initial.tables.items ++ take l.table-index l.table-items
