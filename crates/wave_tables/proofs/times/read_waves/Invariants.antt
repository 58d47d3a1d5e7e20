use Rattle.std.proofs.Common.{◌≡◌, take, map}
use Rattle.std.specs.List.{flat_map}
use Rattle.stil_ast.specs.declared.timing.SignalWaves.{SignalWaves}
use Rattle.wave_tables.specs.Scope.{timed}
use Rattle.wave_tables.specs.ReadWaves.{read_wave}
use Rattle.wave_tables.proofs.times.read_waves.Given as goal

abbrev pub invariant-loop-signals : goal.invariant-loop-signals
invariant-loop-signals l =
    l.read.items ≡ flat_map (λ (s : SignalWaves). map (read_wave (timed l.scope)) s.waves)
    (take l.signals-index l.signals-items)
