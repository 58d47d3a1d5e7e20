use Rattle.std.proofs.Common.{◌≡◌, drop, pos}
use Rattle.stil_ast.specs.Data.Places.{Place}
use Rattle.stil_ast.specs.Faults.Found.{first_in}
use Rattle.wave_tables.specs.Check.{late_read}
use Rattle.wave_tables.proofs.check.check_late.Given as goal

abbrev pub invariant-loop-event : goal.invariant-loop-event
invariant-loop-event l =
    (place : Place) → first_in (late_read place (pos l.period)) l.events
    ≡ first_in (late_read place (pos l.period)) (drop l.event-index l.events)
