use Rattle.std.proofs.Common.{sym}
use Rattle.flat_parts.specs.FlatText.{signal_line}
use Rattle.flat_stil.proofs.SheetLemmas.{prints_nothing, line_step}
use Rattle.flat_stil.proofs.signals.put_each.Goals as goal

pub loop-signal-init : goal.loop-signal-init
loop-signal-init c = sym (prints_nothing c.args.sheet.now)

pub loop-signal-preserved : goal.loop-signal-preserved
loop-signal-preserved c =
    line_step signal_line c.args.sheet.now c.loop-signal.sheet _ c.args.signals.now c.loop-signal.signal-index _ c.signal-item.result
    c.loop-signal-test.true c.signal-item.is c.loop-signal.invariant c.put_signal.ensures
