use Rattle.std.proofs.Common.{◌≡◌, map, take}
use Rattle.flat_parts.specs.FlatText.{wave_line}
use Rattle.flat_stil.specs.Working.{prints}
use Rattle.flat_stil.proofs.tables.put_waves.Given as goal

abbrev pub invariant-loop-wave : goal.invariant-loop-wave
invariant-loop-wave l = l.sheet ≡ prints l.fn.sheet (map (wave_line l.code) (take l.wave-index l.waves))
