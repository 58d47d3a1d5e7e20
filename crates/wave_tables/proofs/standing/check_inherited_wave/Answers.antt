use Rattle.std.proofs.Common.{◌≡◌, Option, map, pos, sym, ap, ◌∙◌, subst}
use Rattle.stil_ast.specs.Faults.Found.{first_in}
use Rattle.stil_ast.specs.declared.fault.StilFault.{StilFault}
use Rattle.wave_tables.specs.declared.times.ReadWave.{ReadWave}
use Rattle.wave_tables.specs.Scope.{timed}
use Rattle.wave_tables.specs.ReadWaves.{read_event}
use Rattle.wave_tables.specs.Standing.{waveform_at}
use Rattle.wave_tables.specs.Check.{IsAt, late_read}
use Rattle.wave_tables.proofs.StandingLemmas.{late_is, not_late_early}
use Rattle.wave_tables.proofs.standing.check_inherited_wave.Goals as goal

pub refuse_standing-requires-clause-late : goal.refuse_standing-requires-clause-late
refuse_standing-requires-clause-late c =
    let t = timed c.args.scope.now in
    let events : c.as_slice.result.now ≡ map (read_event t) c.args.wave.now.events =
    c.as_slice.ensures ∙ ap (λ (r : ReadWave). r.events) c.requires.read in
    subst (λ (o : Option StilFault). IsAt t.place o c.in-Err.late)
    (ap (first_in (late_read t.place (pos c.args.heir.now.period))) events
    ∙ late_is t (pos c.args.heir.now.period) c.args.wave.now.events)
    (c.in-Err.ensures t.place)

pub returns-in-Ok : goal.returns-in-Ok
returns-in-Ok c =
    let t = timed c.args.scope.now in
    let events : c.as_slice.result.now ≡ map (read_event t) c.args.wave.now.events =
    c.as_slice.ensures ∙ ap (λ (r : ReadWave). r.events) c.requires.read in
    not_late_early t (pos c.args.heir.now.period) c.args.heir.now.number
    (waveform_at t.names c.args.source c.args.reference.now c.args.wave.now)
    (sym (ap (first_in (late_read t.place (pos c.args.heir.now.period))) events
    ∙ late_is t (pos c.args.heir.now.period) c.args.wave.now.events)
    ∙ c.in-Ok.ensures t.place)
