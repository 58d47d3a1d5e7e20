-- The drive calls of a cycle, as a socket that keeps a tape tells them: one for each moment that drives the die, with
-- the drives of bound inputs and the clock, and with each P replaced.
use Rattle.std.specs.Prelude.{ℕ, List, [], ◌∷◌, ◌++◌, Option, Some, None}
use Rattle.tester_types.specs.declared.level.Drive.{Drive}
use Rattle.tester_types.specs.declared.cycle.Cycle.{Cycle}
use Rattle.tester_types.specs.declared.cycle.Moment.{Moment}
use Rattle.die_sim.specs.Die.{Device}
use Rattle.die_sim.specs.Socket.{Calls}
use Rattle.site_meaning.specs.Playing.{Stand, Going, Along, along_of, driven, after_moment, moments_in}

-- the call at an instant with these drives: none where there is nothing to drive
abbrev pub call_at : ℕ → List (ℕ × Drive) → Calls
call_at at [] = []
call_at at (first ∷ later) = (at, first ∷ later) ∷ []

-- the call of a moment
abbrev pub call_of : Device → Along → Moment → Calls
call_of device along moment = call_at moment.at (driven device along.priors moment)

-- those of moments one after another
unfoldable pub calls_in : Device → Along → List Moment → Calls
calls_in device along [] = []
calls_in device along (moment ∷ later) =
    call_of device along moment ++ calls_in device (after_moment device along moment) later

-- those of the next cycle
abbrev pub calls_of_cycle : Stand → Going → Cycle → Calls
calls_of_cycle stand going cycle = calls_in stand.device (along_of going) (moments_in stand going.time cycle)

-- a tape after more calls; no tape where none is kept
abbrev pub with_calls : Option Calls → Calls → Option Calls
with_calls None calls = None
with_calls (Some before) calls = Some (before ++ calls)
