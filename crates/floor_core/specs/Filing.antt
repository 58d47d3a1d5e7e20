-- A book into which records are filed one after another.
use Rattle.std.specs.Prelude.{◌≡◌, ℕ, ◌≤◌, List, ◌++◌, length, fold}
use Rattle.tester_types.specs.Records.{SiteRecords}
use Rattle.tester_types.specs.declared.record.Record.{Record}
use Rattle.floor_core.specs.Book.{at_site, filed, new_book}
use Rattle.floor_core.specs.World.{World, Event, after, at_site_of}

-- a book once these records were filed, in this order
unfoldable pub filed_all : List SiteRecords → List Record → List SiteRecords
filed_all book records = fold filed book records

-- each site has a place for each of its records
abbrev pub HasRoomFor : List SiteRecords → List Record → Type 0
HasRoomFor book records = (site : ℕ) → length (at_site_of site records) ≤ (at_site book site).spare

-- a book has kept records: at each site those behind what it had there
abbrev pub HasKept : List SiteRecords → List Record → Type 0
HasKept book records =
    (site : ℕ)
    → (at_site (filed_all book records) site).records ≡ (at_site book site).records ++ at_site_of site records

-- a book of the plan has room for the journal of the world, and keeps it
pub record KeepsJournal (world : World) (events : List Event) : Type 0 where
  pub room : HasRoomFor (new_book world.plan.rows) (after world events).journal
  pub kept : HasKept (new_book world.plan.rows) (after world events).journal
