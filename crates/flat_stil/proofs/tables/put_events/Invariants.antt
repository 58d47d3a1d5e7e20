use Rattle.std.proofs.Common.{◌≡◌, take}
use Rattle.std.specs.List.{flat_map}
use Rattle.flat_parts.specs.FlatText.{event_item}
use Rattle.flat_stil.specs.Working.{wrote}
use Rattle.flat_stil.proofs.tables.put_events.Given as goal

abbrev pub invariant-loop-event : goal.invariant-loop-event
invariant-loop-event l = l.sheet ≡ wrote l.fn.sheet (flat_map event_item (take l.event-index l.events))
