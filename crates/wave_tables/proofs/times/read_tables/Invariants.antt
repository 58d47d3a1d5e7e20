use Rattle.std.proofs.Common.{◌≡◌, take, map}
use Rattle.text_bytes.specs.Texts.{behind}
use Rattle.wave_tables.specs.Scope.{timed}
use Rattle.wave_tables.specs.ReadWaves.{read_waves}
use Rattle.wave_tables.proofs.times.read_tables.Given as goal

abbrev pub invariant-loop-table : goal.invariant-loop-table
invariant-loop-table l =
    l.read.items ≡ map (read_waves (timed l.scope)) (behind (take l.table-index l.tables))
