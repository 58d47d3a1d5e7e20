use Rattle.std.proofs.Common.{◌++◌, ◌∷◌, [], ◌∙◌, ap, arith, List, ℕ, Bool, map, take}
use Rattle.std.specs.List.{list_all}
use Rattle.wave_tables.specs.Lineage.{is_there}
use Rattle.wave_tables.proofs.TakenLemmas.{map_taken}
use Rattle.wave_tables.proofs.lineage.ready.Goals as goal

pub loop-tables-preserved : goal.loop-tables-preserved
loop-tables-preserved c =
    let there : List ℕ → Bool = λ ks. list_all (is_there c.args.wholes.now) ks in
    let found = c.all_there.ensures ∙ ap there c.as_slice.ensures in
    c.in_ok-push.ensures.items
    ∙ ap (λ (l : List Bool). l ++ c.all_there.result ∷ []) c.loop-tables.invariant
    ∙ ap (λ (b : Bool). map there (take c.loop-tables.tables-index c.args.inherits.now) ++ b ∷ []) found
    ∙ map_taken there c.args.inherits.now c.loop-tables.tables-index c.tables-item.result (omega arith) c.tables-item.is
