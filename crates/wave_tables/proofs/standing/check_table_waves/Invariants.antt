use Rattle.std.proofs.Common.{◌≡◌, drop, map, pos}
use Rattle.std.specs.List.{flat_map}
use Rattle.stil_ast.specs.Meaning.Tables.{own_waveforms}
use Rattle.stil_ast.specs.declared.timing.SignalWaves.{SignalWaves}
use Rattle.wave_tables.specs.Scope.{timed}
use Rattle.wave_tables.specs.Own.{own_for, numbered_from}
use Rattle.wave_tables.specs.ReadWaves.{read_wave}
use Rattle.wave_tables.specs.Check.{late_in}
use Rattle.wave_tables.proofs.standing.check_table_waves.Given as goal

abbrev pub invariant-loop-signals : goal.invariant-loop-signals
invariant-loop-signals l = record {
  reads : drop l.next l.reads ≡ flat_map (λ (s : SignalWaves). map (read_wave (timed l.scope)) s.waves)
      (drop l.signals-index l.signals-items);
  none : late_in (timed l.scope) (pos l.heir.period) l.heir.number
      (own_waveforms (timed l.scope).names l.number l.table)
      ≡ late_in (timed l.scope) (pos l.heir.period) l.heir.number
      (numbered_from l.next (flat_map (own_for (timed l.scope).names l.number) (drop l.signals-index l.signals-items)));
}
