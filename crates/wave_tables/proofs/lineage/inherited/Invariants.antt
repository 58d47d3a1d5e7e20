use Rattle.std.proofs.Common.{◌≡◌, take}
use Rattle.std.specs.List.{filter_map}
use Rattle.text_bytes.specs.Texts.{behind}
use Rattle.stil_ast.specs.Meaning.Tables.{table_of}
use Rattle.stil_ast.specs.declared.name.Named.{Named}
use Rattle.wave_tables.proofs.lineage.inherited.Given as goal

abbrev pub invariant-loop-named : goal.invariant-loop-named
invariant-loop-named l =
    l.list.items ≡ filter_map (λ (i : Named). table_of (behind l.tables) i.name) (take l.named-index l.named-items)
