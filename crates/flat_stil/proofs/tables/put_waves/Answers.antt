use Rattle.std.proofs.Common.{sym}
use Rattle.flat_parts.specs.FlatText.{wave_line}
use Rattle.flat_stil.proofs.SheetLemmas.{prints_nothing, line_step}
use Rattle.flat_stil.proofs.tables.put_waves.Goals as goal

pub loop-wave-init : goal.loop-wave-init
loop-wave-init c = sym (prints_nothing c.args.sheet.now)

pub loop-wave-preserved : goal.loop-wave-preserved
loop-wave-preserved c =
    line_step (wave_line c.args.code.now) c.args.sheet.now c.loop-wave.sheet _ c.args.waves.now c.loop-wave.wave-index _ c.wave-item.result
    c.loop-wave-test.true c.wave-item.is c.loop-wave.invariant c.put_wave.ensures
