use Rattle.std.proofs.Common.{◌++◌, ◌∙◌, ap, arith, List, ℕ, take, Option}
use Rattle.std.specs.List.{filter_map}
use Rattle.std.specs.Option.{option_to_list}
use Rattle.text_bytes.specs.Texts.{behind}
use Rattle.stil_ast.specs.Meaning.Tables.{table_of}
use Rattle.stil_ast.specs.declared.name.Named.{Named}
use Rattle.wave_tables.proofs.TakenLemmas.{filter_map_taken}
use Rattle.wave_tables.proofs.lineage.inherited.Goals as goal

pub loop-named-preserved : goal.loop-named-preserved
loop-named-preserved c =
    let number : Named → Option ℕ = λ i. table_of (behind c.args.tables.now) i.name in
    let found = c.table_of.ensures ∙ ap (table_of (behind c.args.tables.now)) c.as_slice.ensures in
    c.in_ok-push_found.ensures
    ∙ ap (λ (l : List ℕ). l ++ option_to_list c.table_of.result) c.loop-named.invariant
    ∙ ap (λ (o : Option ℕ). filter_map number (take c.loop-named.named-index c.as_slice-named-items.result.now)
    ++ option_to_list o) found
    ∙ filter_map_taken number c.as_slice-named-items.result.now c.loop-named.named-index c.named-item.result
    (omega arith) c.named-item.is
