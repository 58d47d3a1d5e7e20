-- What is so of a world however the events of its sites interleave.
use Rattle.std.specs.Prelude.{◌≡◌, ℕ, ◌≤◌, ◌==◌, ◌&&◌, Bool, false, Some, List, ◌++◌, length, sum_by}
use Rattle.std.specs.List.{count_by, flat_map, list_any, range_with_len, AllByRecursion, AllPairs}
use Rattle.std.specs.Option.{option_to_list}
use Rattle.tester_types.specs.declared.record.Verdict.TheVariants as verdict
use Rattle.tester_types.specs.declared.record.Trial.{Trial}
use Rattle.tester_types.specs.declared.record.Record.{Record}
use Rattle.plan_rows.specs.Rows.{sites_of, dies_at}
use Rattle.lot_plan.specs.Bound.{Bound}
use Rattle.site_meaning.specs.Part.{part_of}
use Rattle.site_meaning.specs.Records.{Sound}
use Rattle.site_meaning.specs.Polls.{live_numbers, Climbs}
use Rattle.floor_core.specs.World.{World, Contact, Event, Floor, contact_at, after, at_site_of, alone, events_of}
use Rattle.floor_core.specs.World.{Ask, Poll, File}

-- ---- a site alone

-- the journal's records of each site, in order, are the journal of the site alone
abbrev pub IsEachAlone : World → List Event → Type 0
IsEachAlone world events =
    (site : ℕ)
    → at_site_of site (after world events).journal ≡ (after (alone site world) (events_of site events)).journal

-- ---- the records

-- two records are of one die
abbrev pub AreOfOneDie : Record → Record → Type 0
AreOfOneDie first later = (first.site ≡ later.site) × (first.die ≡ later.die)

-- a try that tells a contact tells the world's one of this try
abbrev pub TellsItsContact : List Contact → ℕ → ℕ → Trial → Type 0
TellsItsContact contacts site die trial =
    (at : ℕ) → trial.verdict ≡ verdict.Contact at → contact_at contacts site die trial.number ≡ Some at

-- a record is sound, and its contacts are the world's
pub record IsRecordIn (world : World) (entry : Record) : Type 0 where
  pub sound : Sound (part_of world.plan entry.site) entry
  pub contacts : AllByRecursion (TellsItsContact world.contacts entry.site entry.die) entry.trials

-- what a site has told: the journal's records of it, and the one that waits
abbrev pub told_at : ℕ → Floor → List Record
told_at site floor = at_site_of site floor.journal ++ option_to_list (floor.seats site).waiting

-- whether an event asks this site to stop
abbrev pub asks : ℕ → Event → Bool
asks site (Ask other) = other == site
asks site (Poll other) = false
asks site (File other) = false

-- The live stops that a site has told rise strictly from above 0 to the number that it took last, which is no more than
-- the times that it was asked.
pub record AreLivesOf (site : ℕ) (events : List Event) (floor : Floor) : Type 0 where
  pub rise : Climbs 0 (flat_map live_numbers (told_at site floor)) (floor.seats site).taken
  pub most : (floor.seats site).taken ≤ count_by (asks site) events

-- the journal has each die at most once, each record is true, and so are the live stops
pub record IsJournal (world : World) (events : List Event) : Type 0 where
  pub keys : AllPairs (λ first later. AreOfOneDie first later → ⊥) (after world events).journal
  pub each : AllByRecursion (IsRecordIn world) (after world events).journal
  pub lives : (site : ℕ) → AreLivesOf site events (after world events)

-- ---- totals

-- the records of a journal, site by site
abbrev pub site_by_site : Bound → List Record → List Record
site_by_site plan journal = flat_map (λ site. at_site_of site journal) (range_with_len 0 (sites_of plan.rows))

-- whether a journal has a record of a die that is counted
abbrev pub is_counted : (Record → Bool) → List Record → ℕ → ℕ → Bool
is_counted counts journal site die =
    list_any (λ (r : Record). r.site == site && (r.die == die && counts r)) journal

-- how many of the planned dies have one
abbrev pub dies_counted : (Record → Bool) → Bound → List Record → ℕ
dies_counted counts plan journal =
    sum_by (λ site. count_by (is_counted counts journal site) (range_with_len 0 (length (dies_at site plan.rows))))
    (range_with_len 0 (sites_of plan.rows))

-- However records are counted, as by the bin of their last try: over the sites' records they come to as many as the
-- journal has, and as there are dies with such a record.
pub record AreTotals (world : World) (events : List Event) (counts : Record → Bool) : Type 0 where
  pub records : count_by counts (site_by_site world.plan (after world events).journal)
      ≡ count_by counts (after world events).journal
  pub dies : count_by counts (site_by_site world.plan (after world events).journal)
      ≡ dies_counted counts world.plan (after world events).journal
