-- The book of a lot: for each site its records in the order of filing, and how many more have a place.
use Rattle.std.specs.Prelude.{ℕ, ◌+◌, ◌-◌, List, [], ◌∷◌, ◌++◌, length, map, slice_index_or, slice_set}
use Rattle.std.specs.List.{range_with_len}
use Rattle.tester_types.specs.Records.{SiteRecords}
use Rattle.tester_types.specs.declared.record.Record.{Record}
use Rattle.plan_rows.specs.declared.row.Row.{Row}
use Rattle.plan_rows.specs.Rows.{sites_of, dies_at}

-- no records, and so many places
abbrev pub empty_site : ℕ → SiteRecords
empty_site places = record { records = []; spare = places }

-- what a book has of a site; of a site that it lacks, no records and no place
abbrev pub at_site : List SiteRecords → ℕ → SiteRecords
at_site book site = slice_index_or book site (empty_site 0)

-- how many records a site has a place for, those that were filed among them
abbrev pub places_of : SiteRecords → ℕ
places_of s = length s.records + s.spare

-- how many records each site has a place for
abbrev pub places_in : List SiteRecords → List ℕ
places_in book = map places_of book

-- one record more, behind the others, in one of the places
abbrev pub with_record : SiteRecords → Record → SiteRecords
with_record s entry = record { records = s.records ++ entry ∷ []; spare = s.spare - 1 }

-- the book once a record was filed: its site has it behind the others, and all else is as it was
abbrev pub filed : List SiteRecords → Record → List SiteRecords
filed book entry = slice_set book entry.site (with_record (at_site book entry.site) entry)

-- how many dies are planned at each site
abbrev pub planned : List Row → List ℕ
planned rows = map (λ site. length (dies_at site rows)) (range_with_len 0 (sites_of rows))

-- a book without records, with a place for each planned die of each site
abbrev pub new_book : List Row → List SiteRecords
new_book rows = map empty_site (planned rows)
