use Rattle.std.proofs.Common.{◌≡◌, ◌≤◌, ◌+◌, ◌++◌, ◌∷◌, [], ℕ, List, length, drop, map, Option, sym, ap, ◌∙◌, subst, arith}
use Rattle.std.specs.List.{enumerate_from}
use Rattle.std.proofs.lemmas.List.{drop_all}
use Rattle.stil_ast.specs.Data.Texts.{upwards}
use Rattle.stil_ast.specs.Faults.Found.{or_else, first_in}
use Rattle.stil_ast.specs.Faults.TableFaults.{table_fault}
use Rattle.stil_ast.specs.Meaning.Tables.{waveforms, wave_count}
use Rattle.stil_ast.specs.declared.fault.StilFault.{StilFault}
use Rattle.wave_tables.specs.Scope.{timed}
use Rattle.wave_tables.specs.Check.{IsAt, period_at}
use Rattle.wave_tables.proofs.FirstLemmas.{at_first, first_numbered}
use Rattle.wave_tables.proofs.TakenLemmas.{behind_long, behind_at}
use Rattle.wave_tables.proofs.TableLemmas.{waves_more}
use Rattle.wave_tables.proofs.PeriodLemmas.{periods_more}
use Rattle.wave_tables.proofs.judge.check_tables.Goals as goal

pub returns-in-Err : goal.returns-in-Err
returns-in-Err c =
    let t = timed c.args.scope.now in
    let at = behind_at c.tables-tables.result.now t.tables c.loop-number.number c.index-tables-number.result
    c.tables-tables.ensures (omega arith) c.index-tables-number.is in
    let whole = c.loop-number.invariant.none
    ∙ first_numbered (table_fault t c.args.before) t.tables c.loop-number.number c.index-tables-number.result.now at in
    subst (λ (o : Option StilFault). IsAt t.place o c.in-Err.trouble) (sym whole)
    (at_first t.place _ _ c.in-Err.trouble (c.in-Err.ensures c.args.before c.loop-number.invariant.total))

pub loop-number-preserved : goal.loop-number-preserved
loop-number-preserved c =
    let t = timed c.args.scope.now in
    let at = behind_at c.tables-tables.result.now t.tables c.loop-number.number c.index-tables-number.result
    c.tables-tables.ensures (omega arith) c.index-tables-number.is in
    let before = map (period_at t) (upwards 0 c.loop-number.number) in
    record {
      periods = c.in_ok-push-in-Ok.ensures.items
          ∙ ap (λ (l : List ℕ). l ++ c.in-Ok.judged.period ∷ []) c.loop-number.invariant.periods
          ∙ ap (λ (p : ℕ). before ++ p ∷ []) c.in-Ok.ensures.1.period
          ∙ sym (periods_more t c.loop-number.number);
      total =
          let own : ℕ = wave_count (waveforms t.names t.tables c.loop-number.number) (length t.names.signals) in
          omega (
            arith,
            c.in-Ok.ensures.1.total,
            c.loop-number.invariant.total,
            waves_more t.names t.tables
                c.loop-number.number,
          );
      none = c.loop-number.invariant.none
          ∙ first_numbered (table_fault t c.args.before) t.tables c.loop-number.number c.index-tables-number.result.now
          at
          ∙ ap (λ (o : Option StilFault). or_else o (first_in (table_fault t c.args.before)
          (enumerate_from (c.loop-number.number + 1) (drop (c.loop-number.number + 1) t.tables))))
          (c.in-Ok.ensures.0 c.args.before c.loop-number.invariant.total);
    }

pub returns : goal.returns
returns c =
    let t = timed c.args.scope.now in
    let all : c.loop-number.number ≡ length t.tables =
    omega (arith, behind_long c.tables-tables.result.now t.tables c.tables-tables.ensures) in
    let past : length t.tables ≤ c.loop-number.number = omega (arith, all) in (
      c.loop-number.invariant.none
          ∙ ap (λ l. first_in (table_fault t c.args.before) (enumerate_from c.loop-number.number l))
          (drop_all c.loop-number.number t.tables past),
      c.loop-number.invariant.periods ∙ ap (λ (n : ℕ). map (period_at t) (upwards 0 n)) all,
    )
