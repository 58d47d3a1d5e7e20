use Rattle.std.proofs.Common.{◌<◌, ◌++◌, ◌∷◌, [], ℕ, List, length, take, map, sym, ap, ◌∙◌, arith}
use Rattle.std.specs.List.{enumerate_from}
use Rattle.std.proofs.lemmas.List.{map-append}
use Rattle.stil_ast.specs.Meaning.Tables.{made_table}
use Rattle.stil_ast.specs.declared.timing.TableDecl.{TableDecl}
use Rattle.tester_types.specs.declared.wave.Table.{Table}
use Rattle.wave_tables.specs.Scope.{timed}
use Rattle.wave_tables.proofs.TakenLemmas.{behind_long, behind_at, enumerate_taken}
use Rattle.wave_tables.proofs.PeriodLemmas.{periods_long, period_there}
use Rattle.wave_tables.proofs.make.made_tables.Goals as goal

pub bounds-periods-number : goal.bounds-periods-number
bounds-periods-number c =
    let t = timed c.args.scope.now in
    omega (
      arith,
      behind_long c.tables-tables.result.now t.tables c.tables-tables.ensures,
      periods_long t c.args.periods.now c.requires.periods,
    )

pub made_at-requires-clause-period : goal.made_at-requires-clause-period
made_at-requires-clause-period c =
    let t = timed c.args.scope.now in
    let within : c.loop-number.number < length t.tables =
    omega (arith, behind_long c.tables-tables.result.now t.tables c.tables-tables.ensures) in
    period_there t c.args.periods.now c.loop-number.number _ c.requires.periods within

pub loop-number-preserved : goal.loop-number-preserved
loop-number-preserved c =
    let t = timed c.args.scope.now in
    let at = behind_at c.tables-tables.result.now t.tables c.loop-number.number c.index-tables-number.result
    c.tables-tables.ensures (omega arith) c.index-tables-number.is in
    let made : ℕ × TableDecl → Table = made_table t.times t.vars t.names t.place t.tables in
    let front = enumerate_from 0 (take c.loop-number.number t.tables) in
    let last : ℕ × TableDecl = (c.loop-number.number, c.index-tables-number.result.now) in
    c.in_ok-push.ensures.items
    ∙ ap (λ (l : List Table). l ++ c.in_ok-made_at.field-0 ∷ []) c.loop-number.invariant
    ∙ ap (λ (x : Table). map made front ++ x ∷ []) c.in_ok-made_at.ensures
    ∙ sym (map-append made front (last ∷ []))
    ∙ ap (map made) (sym (enumerate_taken t.tables c.loop-number.number c.index-tables-number.result.now at))
