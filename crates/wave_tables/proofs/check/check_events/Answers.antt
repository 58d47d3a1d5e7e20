use Rattle.std.proofs.Common.{arith, pos, ap, ◌∙◌, ◌+◌, ◌<◌, length, drop}
use Rattle.text_bytes.proofs.ListLemmas.{drop-item}
use Rattle.wave_tables.specs.Check.{events_read}
use Rattle.wave_tables.proofs.check.check_events.Goals as goal

pub returns-in-Err : goal.returns-in-Err
returns-in-Err c = λ place.
    let within : c.loop-event.event-index < length c.args.events.now = omega arith in
    let here = drop-item c.args.events.now c.loop-event.event-index c.event-item.result within c.event-item.is in
    let whole = c.loop-event.invariant place
    ∙ ap (events_read place (pos c.args.period) (pos c.loop-event.before)) here in
    rw whole (c.in-Err.ensures place (drop (c.loop-event.event-index + 1) c.args.events.now))

pub loop-event-preserved : goal.loop-event-preserved
loop-event-preserved c = λ place.
    let within : c.loop-event.event-index < length c.args.events.now = omega arith in
    let here = drop-item c.args.events.now c.loop-event.event-index c.event-item.result within c.event-item.is in
    c.loop-event.invariant place ∙ ap (events_read place (pos c.args.period) (pos c.loop-event.before)) here
    ∙ c.in-Ok.ensures place (drop (c.loop-event.event-index + 1) c.args.events.now)
