-- A site's work turn by turn, as the code goes through it: a poll of the seat, a batch, and what it files.
use Rattle.std.specs.Prelude.{◌≡◌, ℕ, ◌+◌, ◌≤◌, ◌<◌, Option, None, IfSome, List, [], ◌++◌, length, sum_by}
use Rattle.std.specs.List.{flat_map, AllByRecursion}
use Rattle.std.specs.Option.{option_to_list}
use Rattle.tester_types.specs.Outside.{HasRisen}
use Rattle.tester_types.specs.declared.record.Record.{Record}
use Rattle.die_sim.specs.Socket.{Told}
use Rattle.site_meaning.specs.Part.{Part, dies_in}
use Rattle.site_meaning.specs.Records.{Sound, AreInOrder}
use Rattle.site_meaning.specs.Polls.{Seat, Arises, with_word, with_none_waiting, poll, live_numbers, Climbs}
use Rattle.site_meaning.specs.Counting.{polls_of, polls_so_far}
use Rattle.cycle_run.specs.Tape.{with_calls}
use Rattle.site_run.specs.Taped.{calls_of, calls_of_poll, calls_so_far, IsTaped}
use Rattle.stop_board.specs.Seats.{SiteFacts}
use Rattle.tester_run.specs.Work.{HasCycle, IsLoaded, HasRisenBy, contacts_in}

-- a record is that of the next planned die of the site
pub record IsNext (part : Part) (die : ℕ) (entry : Record) : Type 0 where
  pub site : entry.site ≡ part.site
  pub of_die : entry.die ≡ die
  pub planned : entry.die < dies_in part

-- what is so of a site with nothing waiting, where its records so far are so many
pub record IsReady (part : Part) (seat : Seat) (filed : ℕ) : Type 0 where
  pub arises : Arises part seat
  pub none_waits : seat.waiting ≡ None
  pub filed_are : filed ≡ seat.die

-- a seat of the board was polled once
abbrev pub polled_once : SiteFacts → ℕ → SiteFacts
polled_once facts stops = record facts { seen = stops; polls = facts.polls + 1 }

-- one turn of a site: its seat of the board is polled, a batch comes to the poll with what the seat has seen, whose
-- calls go to the tape, and what waits is filed
pub record IsTurn (part : Part) (old new : Seat) (before now : SiteFacts) (told told' : Told)
    (entries filed : List Record) : Type 0 where
  pub contact : Option ℕ
  pub cause : IfSome contact (λ _. HasRisen told.count told'.count)
  pub count_is : told.count ≤ told'.count
  pub later : before.seen ≤ now.seen
  pub seat_is : now ≡ polled_once before now.seen
  pub poll_is : new ≡ with_none_waiting (poll part contact (with_word old now.seen))
  pub files : filed ≡ entries ++ option_to_list (poll part contact (with_word old now.seen)).waiting
  pub taped : IsTaped contact (calls_of_poll part (with_word old now.seen)) told.tape told'.tape

-- no try of a touchdown has begun
abbrev pub IsClear : Seat → Type 0
IsClear seat = (seat.trials ≡ []) × (seat.running ≡ None)

-- the work so far, of the seat and of what the socket told before it
pub record IsUnderway (part : Part) (begun : SiteFacts) (began : Told) (seat : Seat) (facts : SiteFacts) (told : Told)
    (entries : List Record) : Type 0 where
  pub ready : IsReady part seat (length entries)
  pub each : AllByRecursion (Sound part) entries
  pub order : AreInOrder 0 entries
  pub most : seat.die ≤ dies_in part
  pub rise : Climbs 0 (flat_map live_numbers entries) seat.taken
  pub within : seat.taken ≤ facts.seen
  pub caught : begun.seen ≡ 0 → HasCycle part.code → AllByRecursion IsLoaded entries → seat.taken ≡ facts.seen
  pub contacts : HasRisenBy (contacts_in entries) began.count told.count
  pub count_is : began.count ≤ told.count
  pub taped : (HasRisen began.count told.count → ⊥)
      → told.tape ≡ with_calls began.tape (flat_map (calls_of part) entries ++ calls_so_far part seat)
  pub polls : facts.polls ≡ begun.polls + (sum_by (polls_of part) entries + polls_so_far part seat)
  pub over : dies_in part ≤ seat.die → IsClear seat
  pub facts_are : facts ≡ record begun { seen = facts.seen; polls = facts.polls }
