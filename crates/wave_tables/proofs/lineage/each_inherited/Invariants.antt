use Rattle.std.proofs.Common.{◌≡◌, Some, map, take}
use Rattle.text_bytes.specs.Texts.{behind}
use Rattle.stil_ast.specs.Meaning.Tables.{inherited_by}
use Rattle.stil_ast.specs.declared.timing.TableDecl.{TableDecl}
use Rattle.wave_tables.proofs.lineage.each_inherited.Given as goal

abbrev pub invariant-loop-table : goal.invariant-loop-table
invariant-loop-table l =
    l.list.items ≡ map (λ (t : TableDecl). inherited_by (behind l.tables) (Some t))
    (behind (take l.table-index l.tables))
