-- The part of a world that belongs to one site, and what a poll makes of it: up to the end of one batch.
use Rattle.std.specs.Prelude.{◌≡◌, ℕ, ◌+◌, ◌-◌, ◌^◌, ◌<◌, ◌≤◌, ◌==◌, ◌&&◌, ◌||◌, min, nat_lt, nat_le, Bool, false, if◌then◌else◌, List, [], ◌∷◌, ◌++◌, length, take, drop, Option, Some, None, is_some}
use Rattle.std.specs.List.{find, filter_map, range_with_len, AllByRecursion}
use Rattle.std.specs.Option.{option_map_or}
use Rattle.tester_types.specs.declared.cycle.Cycle.{Cycle}
use Rattle.tester_types.specs.declared.record.By.TheVariants as by
use Rattle.tester_types.specs.declared.record.Fail.{Fail}
use Rattle.tester_types.specs.declared.record.Verdict.{Verdict}
use Rattle.tester_types.specs.declared.record.Verdict.TheVariants as verdict
use Rattle.tester_types.specs.declared.record.Trial.{Trial}
use Rattle.tester_types.specs.declared.record.Record.{Record}
use Rattle.packed_code.specs.Program.{Program}
use Rattle.packed_code.specs.Cycles.{cycles_of}
use Rattle.site_meaning.specs.Playing.{Going, PlayedCycle, starting}
use Rattle.site_meaning.specs.Part.{Part, lot_in, dies_in, order_in, stand_for}
use Rattle.site_meaning.specs.Trials.{played, after_cycles, fails_in, Lost, reached}
use Rattle.site_meaning.specs.Records.{is_fail, Sound}

-- ---- where a site stands

-- a try that runs: its executive, how many cycles of it have run, the number of the next batch, what goes along, how
-- many fails there were, and those that are kept
pub record Running : Type 0 where
  pub exec : ℕ
  pub done : ℕ
  pub batch : ℕ
  pub going : Going
  pub total : ℕ
  pub kept : List Fail

-- a site: its word, the number that it took, the die whose touchdown is next or under way, the tries of it that have
-- ended, the one that runs, and the record that waits to be filed
pub record Seat : Type 0 where
  pub word : ℕ
  pub taken : ℕ
  pub die : ℕ
  pub trials : List Trial
  pub running : Option Running
  pub waiting : Option Record

-- before the first poll
abbrev pub first_seat : Seat
first_seat = record { word = 0; taken = 0; die = 0; trials = []; running = None; waiting = None }

-- the number of the try that runs or is next
abbrev pub try_now : Seat → ℕ
try_now seat = length seat.trials + 1

-- the word is another
abbrev pub with_word : Seat → ℕ → Seat
with_word seat word = record seat { word = word }

-- the waiting record was filed
abbrev pub with_none_waiting : Seat → Seat
with_none_waiting seat = record seat { waiting = None }

-- whether the site is done, or has a record waiting
abbrev pub rests : Part → Seat → Bool
rests part seat = is_some seat.waiting || nat_le (dies_in part) seat.die

-- ---- a try in a poll

-- what comes of a try: it goes on, or ends
pub data Step : Type 0 where
  goes : Running → Step
  ends : Trial → Step

-- the number of fails so far with more of them, up to the largest 64-bit number
abbrev pub more_fails : ℕ → List Fail → ℕ
more_fails total fails = min (total + length fails) (2 ^ 64 - 1)

-- those that are kept of the fails so far and more of them: the first ones
abbrev pub more_kept : Part → List Fail → List Fail → List Fail
more_kept part kept fails = take (lot_in part).keep (kept ++ fails)

-- the try ends before its next batch, or behind its last
abbrev pub ended_now : ℕ → Running → Verdict → Trial
ended_now number running verdict = record {
  number = number;
  cycles = running.going.number;
  fails = running.total;
  kept = running.kept;
  verdict = verdict;
}

-- the contact is lost in the next batch
abbrev pub ended_at : Part → ℕ → Running → ℕ → Lost → Trial
ended_at part number running at lost = record {
  number = number;
  cycles = running.going.number + lost.cycles;
  fails = more_fails running.total lost.fails;
  kept = more_kept part running.kept lost.fails;
  verdict = verdict.Contact at;
}

-- the contact is lost at the load
abbrev pub unloaded : ℕ → Trial
unloaded number = record { number = number; cycles = 0; fails = 0; kept = []; verdict = verdict.Contact 0 }

-- whether an executive has a cycle
abbrev pub has_cycles : Program → ℕ → Bool
has_cycles code exec = nat_lt 0 (length (cycles_of code exec))

-- the first executive with a cycle, from this one on
unfoldable pub next_exec : Program → ℕ → Option ℕ
next_exec code from = find (has_cycles code) (range_with_len from (length code.execs - from))

-- the try goes on with this executive
abbrev pub with_exec : Running → ℕ → Running
with_exec running exec = record running { exec = exec; done = 0 }

-- the try goes on with the first executive that has a cycle, from this one on; it passes where there is none
unfoldable pub onward : Part → ℕ → Running → ℕ → Step
onward part number running from =
    option_map_or (λ exec. goes (with_exec running exec)) (next_exec part.code from)
    (ends (ended_now number running verdict.Pass))

-- before any cycle of a loaded die
abbrev pub fresh_try : Part → ℕ → ℕ → Running
fresh_try part die number = record {
  exec = 0;
  done = 0;
  batch = 0;
  going = starting (stand_for part die number).device;
  total = 0;
  kept = [];
}

-- whether the contact of a try is that of its load
abbrev pub is_at_load : Option ℕ → Bool
is_at_load contact = option_map_or (λ at. at == 0) contact false

-- where a try stands as the poll comes: the die is loaded where no try runs
unfoldable pub arrived : Part → Option ℕ → Seat → Step
arrived part contact seat =
    option_map_or goes seat.running
    (if is_at_load contact then ends (unloaded (try_now seat))
    else onward part (try_now seat) (fresh_try part seat.die (try_now seat)) 0)

-- the cycles of the next batch
unfoldable pub next_cycles : Part → Running → List Cycle
next_cycles part running = take (lot_in part).batch (drop running.done (cycles_of part.code running.exec))

-- as they are played
unfoldable pub next_played : Part → ℕ → ℕ → Running → List PlayedCycle
next_played part die number running =
    played (stand_for part die number) running.exec running.going (next_cycles part running)

-- behind them
unfoldable pub after_batch : Part → ℕ → ℕ → Running → Running
after_batch part die number running = record {
  exec = running.exec;
  done = running.done + length (next_cycles part running);
  batch = running.batch + 1;
  going = after_cycles (stand_for part die number) running.going (next_cycles part running);
  total = more_fails running.total (fails_in (next_played part die number running));
  kept = more_kept part running.kept (fails_in (next_played part die number running));
}

-- behind a batch: where the executive has ended, a fail ends the try, else the next executive follows
unfoldable pub settled : Part → ℕ → Running → Step
settled part number running =
    if nat_lt running.done (length (cycles_of part.code running.exec)) then goes running
    else (if nat_lt 0 running.total then ends (ended_now number running (verdict.Fail running.exec))
    else onward part number running (running.exec + 1))

-- the next batch runs, up to its end or to the instant at which the contact is lost
unfoldable pub run_batch : Part → ℕ → ℕ → Option ℕ → Running → Step
run_batch part die number None running = settled part number (after_batch part die number running)
run_batch part die number (Some at) running =
    option_map_or (λ lost. ends (ended_at part number running at lost))
    (reached at (next_played part die number running))
    (settled part number (after_batch part die number running))

-- whether the plan's order stands before this batch
abbrev pub is_ordered : Option ℕ → ℕ → Bool
is_ordered order batch = option_map_or (λ before. before == batch) order false

-- a try that stands before a batch: a live stop ends it, else the plan's order does, else the batch runs
unfoldable pub before_batch : Part → Option ℕ → Seat → Running → Step
before_batch part contact seat running =
    if nat_lt seat.taken seat.word
    then ends (ended_now (try_now seat) running (verdict.Stopped running.batch (by.Desk seat.word)))
    else (if is_ordered (order_in part seat.die (try_now seat)) running.batch
    then ends (ended_now (try_now seat) running (verdict.Stopped running.batch by.Plan))
    else run_batch part seat.die (try_now seat) contact running)

-- what the poll makes of a try
abbrev pub stepped_try : Part → Option ℕ → Seat → Step → Step
stepped_try part contact seat (goes running) = before_batch part contact seat running
stepped_try part contact seat (ends trial) = ends trial

-- the number that the site has taken: the word, where it stands before a batch and the word exceeds what it took
abbrev pub taken_at : Seat → Step → ℕ
taken_at seat (goes running) = if nat_lt seat.taken seat.word then seat.word else seat.taken
taken_at seat (ends trial) = seat.taken

-- ---- a poll

-- a touchdown that has ended with this try
abbrev pub with_record : Part → Seat → Trial → Seat
with_record part seat trial = record seat {
  die = seat.die + 1;
  trials = [];
  running = None;
  waiting = Some (record { site = part.site; die = seat.die; trials = seat.trials ++ trial ∷ [] });
}

-- a try has ended: its die is tried again after a fail while tries are left, else its touchdown has ended
unfoldable pub with_trial : Part → Seat → Trial → Seat
with_trial part seat trial =
    if is_fail trial.verdict && nat_lt (try_now seat) (lot_in part).tries
    then record seat { trials = seat.trials ++ trial ∷ []; running = None }
    else with_record part seat trial

-- the site where its try has come so far
abbrev pub moved : Part → Seat → Step → Seat
moved part seat (goes running) = record seat { running = Some running }
moved part seat (ends trial) = with_trial part seat trial

-- the site has taken this number
abbrev pub with_taken : Seat → ℕ → Seat
with_taken seat taken = record seat { taken = taken }

-- a site behind a poll, where its try arrived so
abbrev pub polled_from : Part → Option ℕ → Seat → Step → Seat
polled_from part contact seat arrival =
    with_taken (moved part seat (stepped_try part contact seat arrival)) (taken_at seat arrival)

-- A poll, where the try that runs or is next has this contact, an instant or none. A contact at the instant 0 is that
-- of the load.
unfoldable pub poll : Part → Option ℕ → Seat → Seat
poll part contact seat =
    if rests part seat then seat else polled_from part contact seat (arrived part contact seat)

-- ---- what polls bring about

-- a site that asks, polls and filings bring about, whatever words and contacts come
pub data Arises (part : Part) : Seat → Type 0 where
  first : Arises part first_seat
  asked : (seat : Seat) (word : ℕ) → Arises part seat → Arises part (with_word seat word)
  polled : (seat : Seat) (contact : Option ℕ) → Arises part seat → Arises part (poll part contact seat)
  filed : (seat : Seat) → Arises part seat → Arises part (with_none_waiting seat)

-- the live stop that a try tells
abbrev pub live_number : Verdict → Option ℕ
live_number verdict.Pass = None
live_number (verdict.Fail exec) = None
live_number (verdict.Stopped batch by.Plan) = None
live_number (verdict.Stopped batch (by.Desk number)) = Some number
live_number (verdict.Contact at) = None

-- the live stops that a record tells
unfoldable pub live_numbers : Record → List ℕ
live_numbers entry = filter_map (λ (t : Trial). live_number t.verdict) entry.trials

-- numbers rise strictly above the first number, and the last one is the other
abbrev pub Climbs : ℕ → List ℕ → ℕ → Type 0
Climbs from [] to = to ≡ from
Climbs from (number ∷ later) to = (from < number) × Climbs number later to

-- a try that tells a contact is this one, and its contact is this
abbrev pub TellsContact : Option ℕ → ℕ → Trial → Type 0
TellsContact contact number trial =
    (at : ℕ) → trial.verdict ≡ verdict.Contact at → (trial.number ≡ number) × (contact ≡ Some at)

-- a touchdown goes on, or none is begun
pub record GoesOn (old new : Seat) : Type 0 where
  pub word : new.word ≡ old.word
  pub taken : new.taken ≡ old.taken
  pub die : new.die ≡ old.die
  pub waiting : new.waiting ≡ old.waiting

-- a touchdown ends, and its record waits
pub record Ends (part : Part) (contact : Option ℕ) (old new : Seat) : Type 0 where
  pub entry : Record
  pub word : new.word ≡ old.word
  pub none_waited : old.waiting ≡ None
  pub waits : new.waiting ≡ Some entry
  pub of_die : entry.die ≡ old.die
  pub die : new.die ≡ old.die + 1
  pub sound : Sound part entry
  pub lives : Climbs old.taken (live_numbers entry) new.taken
  pub within : old.taken ≤ old.word → new.taken ≤ new.word
  pub contacts : AllByRecursion (TellsContact contact (try_now old)) entry.trials
