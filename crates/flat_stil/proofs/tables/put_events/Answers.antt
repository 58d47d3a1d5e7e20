use Rattle.std.proofs.Common.{sym, refl}
use Rattle.flat_parts.specs.FlatText.{event_item}
use Rattle.flat_stil.proofs.SheetLemmas.{wrote_nothing, text_step}
use Rattle.flat_stil.proofs.tables.put_events.Goals as goal

pub loop-event-init : goal.loop-event-init
loop-event-init c = sym (wrote_nothing c.args.sheet.now)

pub loop-event-preserved : goal.loop-event-preserved
loop-event-preserved c =
    text_step event_item c.args.sheet.now c.loop-event.sheet _ c.args.events.now c.loop-event.event-index _ _ c.loop-event-test.true refl c.loop-event.invariant c.put_event.ensures
