-- The records of a site, as they are filed.
use Rattle.std.specs.Prelude.{ℕ, List, map}
use Rattle.tester_types.specs.declared.record.Record.{Record}

-- the records in the order of filing, and how many more have a place
pub record SiteRecords : Type 0 where
  pub records : List Record
  pub spare : ℕ

-- the records of each site
abbrev pub records_of : List SiteRecords → List (List Record)
records_of sites = map (λ (s : SiteRecords). s.records) sites
