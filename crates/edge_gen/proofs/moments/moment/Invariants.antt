use Rattle.std.proofs.Common.{◌≡◌, take, [], fold}
use Rattle.std.specs.List.{filter_map}
use Rattle.edge_gen.specs.Step.{with_drive, drive_of, look_of_event}
use Rattle.edge_gen.proofs.moments.moment.Given as goal

abbrev pub invariant-loop-event : goal.invariant-loop-event
invariant-loop-event l =
    (l.drives.items ≡ fold with_drive [] (filter_map drive_of (take l.event-index l.events)))
    × (l.looks.items ≡ filter_map look_of_event (take l.event-index l.events))
