use Rattle.std.proofs.Common.{◌≡◌, ℕ, List, length, ap, ◌∙◌}
use Rattle.stil_ast.specs.Meaning.Tables.{waveforms, waves_of}
use Rattle.tester_types.specs.declared.wave.Wave.{Wave}
use Rattle.tester_types.specs.declared.wave.Table.{Table}
use Rattle.wave_tables.specs.Scope.{timed}
use Rattle.wave_tables.specs.Check.{period_at}
use Rattle.wave_tables.specs.Rows.{rows_of}
use Rattle.wave_tables.specs.Standing.{MapsTable}
use Rattle.wave_tables.proofs.RowLemmas.{rows_are}
use Rattle.wave_tables.proofs.make.made_table.Goals as goal

pub returns : goal.returns
returns c =
    let t = timed c.args.scope.now in
    let written : c.in_ok-name.name ≡ c.args.table.now.name = c.in_ok-name.ensures ∙ c.as_slice.ensures in
    let maps : MapsTable t c.args.number c.deref.result.now = rw c.deref.ensures.value c.requires.has.slots in
    let all : c.in_ok-waves.waves ≡ waves_of t.times t.vars t.place (waveforms t.names t.tables c.args.number)
    (length t.names.signals) =
    c.in_ok-waves.ensures ∙ ap (rows_of c.args.reads.now c.deref.result.now) c.in_ok-signals.ensures
    ∙ rows_are t c.args.number c.deref.result.now maps c.args.reads.now c.requires.reads in
    let name_in : List ℕ → Table =
    λ n. record { name = n; period = c.args.period; waves = c.in_ok-waves.waves } in
    let period_in : ℕ → Table = λ p. record { name = c.args.table.now.name; period = p; waves = c.in_ok-waves.waves } in
    let waves_in : List Wave → Table =
    λ w. record { name = c.args.table.now.name; period = period_at t c.args.number; waves = w } in
    ap name_in written ∙ ap period_in c.requires.period ∙ ap waves_in all
