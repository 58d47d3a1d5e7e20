use Rattle.std.proofs.Common.{◌≡◌, drop, pos}
use Rattle.stil_ast.specs.Data.Places.{Place}
use Rattle.wave_tables.specs.Check.{events_read}
use Rattle.wave_tables.proofs.check.check_events.Given as goal

abbrev pub invariant-loop-event : goal.invariant-loop-event
invariant-loop-event l =
    (place : Place) → events_read place (pos l.period) (pos 0) l.events
    ≡ events_read place (pos l.period) (pos l.before) (drop l.event-index l.events)
