use Rattle.std.proofs.Common.{◌≡◌, take}
use Rattle.std.specs.List.{filter_map}
use Rattle.wave_tables.specs.Made.{event_read}
use Rattle.wave_tables.proofs.waves.events_for.Given as goal

abbrev pub invariant-loop-event : goal.invariant-loop-event
invariant-loop-event l = l.list.items
    ≡ filter_map (event_read l.wave.characters l.character) (take l.event-index l.event-items)
