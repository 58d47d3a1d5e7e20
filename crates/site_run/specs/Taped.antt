-- What polls put on a tape: the drive calls of the cycles that they play, so that a record tells what its tries put
-- there.
use Rattle.std.specs.Prelude.{◌≡◌, ℕ, ◌⊎◌, ◌||◌, nat_lt, nat_le, if◌then◌else◌, List, [], ◌++◌, filter, take, length, Option, Some, None}
use Rattle.std.specs.List.{flat_map, range_with_len}
use Rattle.std.specs.Option.{option_map_or}
use Rattle.tester_types.specs.declared.level.Drive.{Drive}
use Rattle.tester_types.specs.declared.cycle.Cycle.{Cycle}
use Rattle.tester_types.specs.declared.record.Trial.{Trial}
use Rattle.tester_types.specs.declared.record.Record.{Record}
use Rattle.packed_code.specs.Program.{Program}
use Rattle.packed_code.specs.Cycles.{cycles_of}
use Rattle.die_sim.specs.Socket.{Calls}
use Rattle.site_meaning.specs.Playing.{starting}
use Rattle.site_meaning.specs.Part.{Part, order_in, stand_for}
use Rattle.site_meaning.specs.Polls.{Running, Seat, Step, goes, ends, try_now, rests, arrived, next_cycles, is_ordered}
use Rattle.cycle_run.specs.Tape.{with_calls}
use Rattle.cycle_run.specs.Batch.{calls_of_cycles}

-- ---- a recorded try

-- the cycles of a program, one executive after another
unfoldable pub all_cycles : Program → List Cycle
all_cycles code = flat_map (cycles_of code) (range_with_len 0 (length code.execs))

-- the drive calls of the first so many cycles of a try of a die
unfoldable pub calls_of_try : Part → ℕ → ℕ → ℕ → Calls
calls_of_try part die number count =
    calls_of_cycles (stand_for part die number) (starting (stand_for part die number).device)
    (take count (all_cycles part.code))

-- those of a recorded try that lost no contact: of the cycles that it finished
abbrev pub calls_of_trial : Part → ℕ → Trial → Calls
calls_of_trial part die recorded = calls_of_try part die recorded.number recorded.cycles

-- those of tries
abbrev pub calls_of_trials : Part → ℕ → List Trial → Calls
calls_of_trials part die trials = flat_map (calls_of_trial part die) trials

-- those of a record
abbrev pub calls_of : Part → Record → Calls
calls_of part entry = calls_of_trials part entry.die entry.trials

-- ---- a poll

-- the calls of the next batch
unfoldable pub calls_of_batch : Part → ℕ → ℕ → Running → Calls
calls_of_batch part die number running =
    calls_of_cycles (stand_for part die number) running.going (next_cycles part running)

-- those of a try that stands before its next batch: none where a stop ends it first
unfoldable pub calls_of_next : Part → Seat → Running → Calls
calls_of_next part seat running =
    if nat_lt seat.taken seat.word || is_ordered (order_in part seat.die (try_now seat)) running.batch then []
    else calls_of_batch part seat.die (try_now seat) running

-- those of a try that has arrived there, if it has
abbrev pub calls_of_step : Part → Seat → Step → Calls
calls_of_step part seat (goes running) = calls_of_next part seat running
calls_of_step part seat (ends recorded) = []

-- those of a poll that loses no contact
unfoldable pub calls_of_poll : Part → Seat → Calls
calls_of_poll part seat = if rests part seat then [] else calls_of_step part seat (arrived part None seat)

-- ---- a tape

-- the calls before an instant
abbrev pub calls_before : ℕ → Calls → Calls
calls_before at calls = filter (λ (call : ℕ × List (ℕ × Drive)). nat_lt call.0 at) calls

-- those up to it
abbrev pub calls_until : ℕ → Calls → Calls
calls_until at calls = filter (λ (call : ℕ × List (ℕ × Drive)). nat_le call.0 at) calls

-- A tape behind calls, of which a contact, an instant or none, cuts off the rest: those before its instant are on the
-- tape, and the one at it may be.
abbrev pub IsTaped : Option ℕ → Calls → Option Calls → Option Calls → Type 0
IsTaped None calls old new = new ≡ with_calls old calls
IsTaped (Some at) calls old new =
    (new ≡ with_calls old (calls_before at calls)) ⊎ (new ≡ with_calls old (calls_until at calls))

-- ---- a touchdown, poll by poll

-- the calls of the try that runs so far
abbrev pub calls_of_running : Part → Seat → Calls
calls_of_running part seat =
    option_map_or (λ (running : Running). calls_of_try part seat.die (try_now seat) running.going.number)
    seat.running []

-- those of a touchdown so far
abbrev pub calls_so_far : Part → Seat → Calls
calls_so_far part seat = calls_of_trials part seat.die seat.trials ++ calls_of_running part seat

-- a poll puts its calls behind those so far: the touchdown goes on, or its record tells all of them
pub record Tapes (part : Part) (old new : Seat) : Type 0 where
  pub on : new.waiting ≡ None → calls_so_far part new ≡ calls_so_far part old ++ calls_of_poll part old
  pub over : (entry : Record) → new.waiting ≡ Some entry
      → calls_of part entry ≡ calls_so_far part old ++ calls_of_poll part old
