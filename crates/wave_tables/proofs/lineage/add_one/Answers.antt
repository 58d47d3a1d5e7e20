use Rattle.std.proofs.Common.{arith, ◌≡◌, ◌<◌, ◌∷◌, ◌++◌, [], None, Some, length, get_or, sym, ◌∙◌, subst, get_or-set_same}
use Rattle.std.specs.List.{flat_map}
use Rattle.std.proofs.lemmas.List.{get_or_default}
use Rattle.std.proofs.lemmas.Option.{same_Some}
use Rattle.std.proofs.lemmas.Grind.{common_steps}
use Rattle.stil_ast.specs.Meaning.Tables.{lineage}
use Rattle.wave_tables.specs.declared.lineage.Whole.{Whole}
use Rattle.wave_tables.specs.Scope.{timed}
use Rattle.wave_tables.specs.Lineage.{HasOf, AreMadeAt}
use Rattle.wave_tables.proofs.lineage.add_one.Goals as goal

pub returns-clause-has : goal.returns-clause-has
returns-clause-has c = λ e whole at made.
    let t = timed c.args.scope.now in
    let within : c.args.number < length c.args.wholes.now = omega arith in
    let number = c.args.number in
    let same : Some c.in_ok-whole.whole ≡ Some whole =
    sym (get_or-set_same c.args.wholes.now c.args.number (Some c.in_ok-whole.whole) None within) ∙ at in
    let short : c.in_ok-short.short ≡ c.args.number = grind (arith, common_steps) in
    let listed : c.as_slice.result.now ≡ get_or c.args.inherits.now c.args.number [] =
    c.as_slice.ensures ∙ c.index-inherits-number.is
    ∙ get_or_default c.args.inherits.now c.args.number c.index-inherits-number.result [] (omega arith) in
    let made_at : AreMadeAt t c.args.wholes.now c.as_slice.result.now = rw listed made in
    let has = c.in_ok-whole.ensures made_at in
    let moved : HasOf t (flat_map (lineage t.tables) (get_or c.args.inherits.now c.args.number [])
    ++ c.args.number ∷ []) c.in_ok-whole.whole =
    rw (← listed, ← short) has in
    subst (λ (w : Whole). HasOf t (flat_map (lineage t.tables) (get_or c.args.inherits.now c.args.number [])
    ++ c.args.number ∷ []) w)
    (same_Some c.in_ok-whole.whole whole same) moved
