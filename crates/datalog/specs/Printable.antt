-- What records must be, so that their text can be asked for, and what of it their text needs.
use Rattle.std.specs.Prelude.{◌≡◌, ℕ, ◌<◌, ◌≤◌, List, length, slice_index_or, All}
use Rattle.std.specs.List.{AllByRecursion}
use Rattle.tester_types.specs.Records.{SiteRecords}
use Rattle.tester_types.specs.declared.record.Fail.{Fail}
use Rattle.tester_types.specs.declared.record.Record.{Record}
use Rattle.tester_types.specs.declared.record.Trial.{Trial}
use Rattle.packed_code.specs.Program.{Program}
use Rattle.plan_rows.specs.Rows.{sites_of, dies_at}
use Rattle.lot_plan.specs.Bound.{Bound}
use Rattle.site_meaning.specs.Part.{part_of}
use Rattle.site_meaning.specs.Records.{Sound}
use Rattle.floor_core.specs.Book.{at_site}
use Rattle.text_bytes.specs.Limits.{most_plan_sites}

-- the records of a book are sound, each at the site under whose number it stands, and the sites are those of the plan
pub record AreSound (plan : Bound) (book : List SiteRecords) : Type 0 where
  pub sites : length book ≡ sites_of plan.rows
  pub each : (site : ℕ) → site < sites_of plan.rows
      → AllByRecursion (Sound (part_of plan site)) (at_site book site).records

-- a fail is of a signal of the code
pub record IsKnown (code : Program) (fail : Fail) : Type 0 where
  pub signal : fail.signal < length code.signals

-- each kept fail of a try is known
abbrev pub IsKnownTrial : Program → Trial → Type 0
IsKnownTrial code trial = All (IsKnown code) trial.kept

-- a record's site and die are planned, it has at least one try, and each kept fail is known
pub record IsPrintable (code : Program) (plan : Bound) (entry : Record) : Type 0 where
  pub site : entry.site < sites_of plan.rows
  pub die : entry.die < length (dies_at entry.site plan.rows)
  pub tried : 0 < length entry.trials
  pub known : All (IsKnownTrial code) entry.trials

-- a record is printable, and it is of this site
pub record IsPrintableAt (code : Program) (plan : Bound) (site : ℕ) (entry : Record) : Type 0 where
  pub own : entry.site ≡ site
  pub printable : IsPrintable code plan entry

-- each record is printable, and of the site under whose number it stands; there are no more sites than a plan names
pub record ArePrintable (code : Program) (plan : Bound) (sites : List (List Record)) : Type 0 where
  pub few : length sites ≤ most_plan_sites
  pub each : (site : ℕ) (none : List Record) → site < length sites
      → All (IsPrintableAt code plan site) (slice_index_or sites site none)
