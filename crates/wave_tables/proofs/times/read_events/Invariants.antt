use Rattle.std.proofs.Common.{◌≡◌, take, map}
use Rattle.wave_tables.specs.Scope.{timed}
use Rattle.wave_tables.specs.ReadWaves.{read_event}
use Rattle.wave_tables.proofs.times.read_events.Given as goal

abbrev pub invariant-loop-event : goal.invariant-loop-event
invariant-loop-event l = l.read.items ≡ map (read_event (timed l.scope)) (take l.event-index l.events)
