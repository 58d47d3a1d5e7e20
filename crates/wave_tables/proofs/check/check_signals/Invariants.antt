use Rattle.std.proofs.Common.{◌≡◌, drop, map, pos}
use Rattle.std.specs.List.{flat_map}
use Rattle.stil_ast.specs.Faults.Found.{first_in}
use Rattle.stil_ast.specs.Faults.TableFaults.{signal_fault}
use Rattle.stil_ast.specs.declared.timing.SignalWaves.{SignalWaves}
use Rattle.wave_tables.specs.Scope.{timed}
use Rattle.wave_tables.specs.ReadWaves.{read_wave}
use Rattle.wave_tables.proofs.check.check_signals.Given as goal

abbrev pub invariant-loop-signals : goal.invariant-loop-signals
invariant-loop-signals l = record {
  reads : l.left ≡ flat_map (λ (s : SignalWaves). map (read_wave (timed l.scope)) s.waves) (drop l.signals-index l.list);
  none : first_in (signal_fault (timed l.scope) (pos l.period)) l.list
      ≡ first_in (signal_fault (timed l.scope) (pos l.period)) (drop l.signals-index l.list);
}
