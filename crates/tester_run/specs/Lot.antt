-- What a lot leaves: at each site the records of its work.
use Rattle.std.specs.Prelude.{◌≡◌, ℕ, ◌-◌, ◌<◌, ◌≤◌, None, List, length, drop, slice_index_or}
use Rattle.std.specs.List.{flat_map}
use Rattle.tester_types.specs.Records.{SiteRecords}
use Rattle.tester_types.specs.declared.record.Record.{Record}
use Rattle.die_sim.specs.Socket.{Told}
use Rattle.plan_rows.specs.Rows.{sites_of, dies_at}
use Rattle.lot_plan.specs.Bound.{Bound}
use Rattle.site_meaning.specs.Part.{part_of}
use Rattle.site_meaning.specs.Polls.{live_numbers, Climbs}
use Rattle.floor_core.specs.Book.{at_site}
use Rattle.tester_run.specs.Work.{AreRecords, AreTaped, HasRisenBy, contacts_in}

-- The whole list of a site of a lot, of the stops that the desk said for it and of what its socket told before and
-- tells now. Its live stops rise strictly from above 0 and none exceeds the stops that were said. It tells no more
-- contacts than the count of faults rose by. A tape has the calls of its records.
pub record AreOfSite (plan : Bound) (site said : ℕ) (told told' : Told) (entries : List Record) : Type 0 where
  pub records_are : AreRecords (part_of plan site) entries
  pub last : ℕ
  pub rise : Climbs 0 (flat_map live_numbers entries) last
  pub within : last ≤ said
  pub contacts : HasRisenBy (contacts_in entries) told.count told'.count
  pub taped : AreTaped (part_of plan site) entries told told'

-- how many stops were said for a site since
abbrev pub said_since : (ℕ → ℕ) → (ℕ → ℕ) → ℕ → ℕ
said_since before now site = now site - before site

-- the book has at each site of the plan the site's whole list; the socket at the place of its number was its own
abbrev pub AreOfLot : {S : Type 0} → (S → Told) → Bound → (ℕ → ℕ) → List S → List S → List SiteRecords → Type 0
AreOfLot {S = S} told plan said before now book =
    (site : ℕ) (socket : S) → site < sites_of plan.rows
    → AreOfSite plan site (said site) (told (slice_index_or before site socket)) (told (slice_index_or now site socket))
    (at_site book site).records

-- The sockets are as many as before, and in the same order: no count of faults fell, one that no die was loaded into is
-- as it was, and in any other no die is left.
pub record AreLeft {S : Type 0} (told : S → Told) (plan : Bound) (before now : List S) : Type 0 where
  pub all : length now ≡ length before
  pub beyond : drop (sites_of plan.rows) now ≡ drop (sites_of plan.rows) before
  pub idle : (site : ℕ) (socket : S) → site < length before → length (dies_at site plan.rows) ≡ 0
      → slice_index_or now site socket ≡ slice_index_or before site socket
  pub unloaded : (site : ℕ) (socket : S) → site < sites_of plan.rows → 0 < length (dies_at site plan.rows)
      → (told (slice_index_or now site socket)).loaded ≡ None
  pub count : (site : ℕ) (socket : S) → site < length before
      → (told (slice_index_or before site socket)).count ≤ (told (slice_index_or now site socket)).count
