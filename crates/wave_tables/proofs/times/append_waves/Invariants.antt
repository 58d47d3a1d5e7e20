use Rattle.std.proofs.Common.{◌≡◌, ◌++◌, take, map}
use Rattle.wave_tables.specs.Scope.{timed}
use Rattle.wave_tables.specs.ReadWaves.{read_wave}
use Rattle.wave_tables.proofs.times.append_waves.Given as goal

abbrev pub invariant-loop-wave : goal.invariant-loop-wave
invariant-loop-wave l =
    l.read.items ≡ l.fn.read.items ++ map (read_wave (timed l.scope)) (take l.wave-index l.waves)
