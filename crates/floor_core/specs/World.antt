-- The world of a lot: its sites are asked to stop, polled and made to file, in any order, and one journal has what they
-- filed. What one poll makes of a site is `poll`.
use Rattle.std.specs.Prelude.{ℕ, ◌+◌, ◌==◌, ◌&&◌, Bool, if◌then◌else◌, List, [], ◌++◌, filter, fold, Option}
use Rattle.std.specs.List.{find}
use Rattle.std.specs.Option.{option_map, option_to_list}
use Rattle.tester_types.specs.declared.record.Record.{Record}
use Rattle.lot_plan.specs.Bound.{Bound}
use Rattle.site_meaning.specs.Part.{part_of, only}
use Rattle.site_meaning.specs.Polls.{Seat, first_seat, try_now, with_word, with_none_waiting, poll}

-- ---- a world, and what happens in it

-- a contact that is lost: in which try of which die of which site, and at which instant
pub record Contact : Type 0 where
  pub site : ℕ
  pub die : ℕ
  pub number : ℕ
  pub at : ℕ

-- a world: its plan, with the program to which it is bound, and its contacts
pub record World : Type 0 where
  pub plan : Bound
  pub contacts : List Contact

-- what may happen: a site is asked to stop, is polled, or files the record that waits
pub data Event : Type 0 where
  Ask : ℕ → Event
  Poll : ℕ → Event
  File : ℕ → Event

-- where a world stands: the seat of each site, and the journal in the order of filing
pub record Floor : Type 0 where
  pub seats : ℕ → Seat
  pub journal : List Record

-- ---- one event

-- the site that an event names
abbrev pub named : Event → ℕ
named (Ask site) = site
named (Poll site) = site
named (File site) = site

-- whether a contact is that of this try
abbrev pub is_contact_of : ℕ → ℕ → ℕ → Contact → Bool
is_contact_of site die number contact = contact.site == site && (contact.die == die && contact.number == number)

-- the instant at which this try loses its contact, by the first entry for it; none where there is no entry
unfoldable pub contact_at : List Contact → ℕ → ℕ → ℕ → Option ℕ
contact_at contacts site die number =
    option_map (λ (c : Contact). c.at) (find (is_contact_of site die number) contacts)

-- the contact of the try that runs or is next at a site
abbrev pub contact_now : World → ℕ → Seat → Option ℕ
contact_now world site seat = contact_at world.contacts site seat.die (try_now seat)

-- what an event makes of the seat that it names: an ask adds 1 to its word, a poll moves it up to the end of one batch,
-- and a file takes its waiting record away
abbrev pub moved_by : World → Event → Seat → Seat
moved_by world (Ask site) seat = with_word seat (seat.word + 1)
moved_by world (Poll site) seat = poll (part_of world.plan site) (contact_now world site seat) seat
moved_by world (File site) seat = with_none_waiting seat

-- what an event files of the seat that it names: a file the waiting record, where there is one
abbrev pub filed_by : Event → Seat → List Record
filed_by (Ask site) seat = []
filed_by (Poll site) seat = []
filed_by (File site) seat = option_to_list seat.waiting

-- the seat of a site, where an event may name it
abbrev pub seat_after : World → Event → (ℕ → Seat) → ℕ → Seat
seat_after world event seats site =
    if site == named event then moved_by world event (seats site) else seats site

-- an event happens: it moves the seat that it names and the journal, and nothing else
abbrev pub happens : World → Floor → Event → Floor
happens world floor event = record {
  seats = seat_after world event floor.seats;
  journal = floor.journal ++ filed_by event (floor.seats (named event));
}

-- ---- events one after another

-- before any event
abbrev pub at_first : Floor
at_first = record { seats = λ site. first_seat; journal = [] }

-- once these events have happened, in this order
unfoldable pub after : World → List Event → Floor
after world events = fold (happens world) at_first events

-- ---- a site alone

-- whether a record is that of the site
abbrev pub is_at : ℕ → Record → Bool
is_at site entry = entry.site == site

-- the records of a site, in their order
abbrev pub at_site_of : ℕ → List Record → List Record
at_site_of site records = filter (is_at site) records

-- the world with the plan's rows of one site and those that name no site, and with its contacts alone
abbrev pub alone : ℕ → World → World
alone site world = record {
  plan = only site world.plan;
  contacts = filter (λ (c : Contact). c.site == site) world.contacts;
}

-- the events that name a site, in their order
abbrev pub events_of : ℕ → List Event → List Event
events_of site events = filter (λ e. named e == site) events
