use Rattle.std.proofs.Common.{◌≡◌, drop, pos}
use Rattle.stil_ast.specs.Data.Places.{Place}
use Rattle.stil_ast.specs.Faults.Found.{first_in}
use Rattle.wave_tables.specs.Check.{read_fault}
use Rattle.wave_tables.proofs.check.check_waves.Given as goal

abbrev pub invariant-loop-wave : goal.invariant-loop-wave
invariant-loop-wave l =
    (place : Place) → first_in (read_fault place (pos l.period)) l.waves
    ≡ first_in (read_fault place (pos l.period)) (drop l.wave-index l.waves)
