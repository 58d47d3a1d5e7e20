-- The datalog of a whole plan, of what the datalogs of its parts say.
use Rattle.std.specs.Prelude.{◌≡◌, ℕ, ◌<◌, ◌/◌, ◌%◌, List, [], ◌∷◌, ◌++◌, length, map, slice_index_or}
use Rattle.std.specs.List.{range_with_len}
use Rattle.plan_rows.specs.declared.row.Row.{Row}
use Rattle.plan_rows.specs.Judging.{names_at}
use Rattle.datalog.specs.DatalogText.{site_line, totals_text}
use Rattle.plan_parts.specs.Cut.{sites_with_dies, sites_in_part, site_at}
use Rattle.log_parts.specs.Log.{DieLog, dies_text, bins_of, AreLogs}
use Rattle.log_parts.specs.Slices.{SlicedLog, site_texts}

-- the names of the dies of a part, site by site
unfoldable pub names_in : ℕ → ℕ → List Row → List (List (List ℕ))
names_in parts part rows =
    map (λ number. names_at (site_at parts part rows number) rows)
    (range_with_len 0 (sites_in_part parts part (length (sites_with_dies rows))))

-- what the part to which the site of this rank went says of it
abbrev pub log_of_rank : List (List (List DieLog)) → ℕ → List DieLog
log_of_rank parts rank = slice_index_or (slice_index_or parts (rank % length parts) []) (rank / length parts) []

-- what the parts say of all sites with dies, by rising number of the plan's sites
abbrev pub dealt : List (List (List DieLog)) → List Row → List (List DieLog)
dealt parts rows = map (log_of_rank parts) (range_with_len 0 (length (sites_with_dies rows)))

-- the lines of these sites of a plan
abbrev pub merged_sites : List Row → List ℕ → List (List DieLog) → List ℕ
merged_sites rows [] logs = []
merged_sites rows (site ∷ sites) [] = []
merged_sites rows (site ∷ sites) (log ∷ logs) =
    site_line site ++ dies_text (names_at site rows) log ++ merged_sites rows sites logs

-- the datalog of the plan: its sites by rising number, and the totals of all bins
unfoldable pub merged_text : List Row → List (List (List DieLog)) → List ℕ
merged_text rows parts =
    merged_sites rows (sites_with_dies rows) (dealt parts rows) ++ totals_text (bins_of (dealt parts rows))

-- ---- what was read of the parts

-- nothing was read
abbrev pub no_log : SlicedLog
no_log = record { texts = []; bins = [] }

-- what was read of a part is of a datalog of the dies of this part of the plan, which says this
pub record IsOfPart (rows : List Row) (parts part : ℕ) (logs : List (List DieLog)) (log : SlicedLog) : Type 0 where
  pub are : AreLogs (names_in parts part rows) logs
  pub texts : log.texts ≡ site_texts (names_in parts part rows) logs
  pub bins : log.bins ≡ bins_of logs

-- these are the sites with dies of the plan, and what was read of all its parts
pub record AreOfPlan (rows : List Row) (parts : List (List (List DieLog))) (sites : List ℕ) (logs : List SlicedLog)
    : Type 0 where
  pub are_sites : sites ≡ sites_with_dies rows
  pub count : length parts ≡ length logs
  pub each : (part : ℕ) → part < length logs →
      IsOfPart rows (length logs) part (slice_index_or parts part []) (slice_index_or logs part no_log)
