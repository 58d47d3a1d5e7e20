use Rattle.std.proofs.Common.{◌+◌, ℕ, drop, pos, Option, sym, ap, ◌∙◌, subst, arith}
use Rattle.std.specs.List.{enumerate_from}
use Rattle.std.specs.Option.{option_map}
use Rattle.std.specs.Prelude.{slice_get}
use Rattle.std.proofs.lemmas.Option.{slice_get-map}
use Rattle.stil_ast.specs.Meaning.Tables.{own_waveforms}
use Rattle.stil_ast.specs.Faults.Found.{or_else, first_in}
use Rattle.stil_ast.specs.declared.fault.StilFault.{StilFault}
use Rattle.stil_ast.specs.declared.timing.TableDecl.{TableDecl}
use Rattle.wave_tables.specs.Scope.{timed}
use Rattle.wave_tables.specs.Characters.{signals_with_characters}
use Rattle.wave_tables.specs.ReadWaves.{read_waves}
use Rattle.wave_tables.specs.Check.{IsAt, late_in}
use Rattle.wave_tables.proofs.FirstLemmas.{at_first, first_numbered}
use Rattle.wave_tables.proofs.TakenLemmas.{behind_at, found_passes}
use Rattle.wave_tables.proofs.standing.check_inherited.Goals as goal

pub check_other-requires-clause-characters : goal.check_other-requires-clause-characters
check_other-requires-clause-characters c =
    let at = behind_at c.tables-tables.result.now (timed c.args.scope.now).tables c.loop-number.number
    c.index-tables-number.result
    c.tables-tables.ensures (omega arith) c.index-tables-number.is in
    found_passes (λ (t : TableDecl). signals_with_characters t.waveforms) (timed c.args.scope.now).tables c.loop-number.number
    c.index-tables-number.result.now c.args.scope.now.with_characters at

pub check_other-requires-clause-reads : goal.check_other-requires-clause-reads
check_other-requires-clause-reads c =
    let t = timed c.args.scope.now in
    let at = behind_at c.tables-tables.result.now t.tables c.loop-number.number c.index-tables-number.result
    c.tables-tables.ensures (omega arith) c.index-tables-number.is in
    ap (λ l. slice_get l c.loop-number.number) c.requires.reads
    ∙ slice_get-map (read_waves t) t.tables c.loop-number.number
    ∙ ap (option_map (read_waves t)) at

pub returns-in-Err : goal.returns-in-Err
returns-in-Err c =
    let t = timed c.args.scope.now in
    let at = behind_at c.tables-tables.result.now t.tables c.loop-number.number c.index-tables-number.result
    c.tables-tables.ensures (omega arith) c.index-tables-number.is in
    let rule : ℕ × TableDecl → Option StilFault =
    λ other. late_in t (pos c.args.heir.now.period) c.args.heir.now.number (own_waveforms t.names other.0 other.1) in
    let whole = c.loop-number.invariant
    ∙ first_numbered rule t.tables c.loop-number.number c.index-tables-number.result.now at in
    subst (λ (o : Option StilFault). IsAt t.place o c.in-Err.trouble) (sym whole)
    (at_first t.place _ _ c.in-Err.trouble c.in-Err.ensures)

pub loop-number-preserved : goal.loop-number-preserved
loop-number-preserved c =
    let t = timed c.args.scope.now in
    let at = behind_at c.tables-tables.result.now t.tables c.loop-number.number c.index-tables-number.result
    c.tables-tables.ensures (omega arith) c.index-tables-number.is in
    let rule : ℕ × TableDecl → Option StilFault =
    λ other. late_in t (pos c.args.heir.now.period) c.args.heir.now.number (own_waveforms t.names other.0 other.1) in
    c.loop-number.invariant ∙ first_numbered rule t.tables c.loop-number.number c.index-tables-number.result.now at
    ∙ ap (λ (o : Option StilFault). or_else o
    (first_in rule (enumerate_from (c.loop-number.number + 1) (drop (c.loop-number.number + 1) t.tables))))
    c.in-Ok.ensures
