-- What is put of the parts. No public clause cites it.
use Rattle.std.specs.Prelude.{ℕ, ◌/◌, ◌%◌, List, [], ◌++◌, length, slice_index_or}
use Rattle.std.specs.List.{flat_map, range_with_len, sum_by}
use Rattle.datalog.specs.DatalogText.{dies_in, site_line, total_line}
use Rattle.log_parts.specs.Slices.{SlicedLog}
use Rattle.log_parts.specs.Merged.{no_log}

-- the lines of the dies of the site of this rank, as its part has them
abbrev pub text_of_rank : List SlicedLog → ℕ → List ℕ
text_of_rank logs rank = slice_index_or (slice_index_or logs (rank % length logs) no_log).texts (rank / length logs) []

-- the same behind the line of the site
abbrev pub dealt_site : List SlicedLog → ℕ → ℕ → List ℕ
dealt_site logs site rank = site_line site ++ text_of_rank logs rank

-- the same of all sites
abbrev pub dealt_text : List SlicedLog → List ℕ → List ℕ
dealt_text logs sites =
    flat_map (λ rank. dealt_site logs (slice_index_or sites rank 0) rank) (range_with_len 0 (length sites))

-- how many dies of all parts fell into the bin
abbrev pub dies_of : List SlicedLog → ℕ → ℕ
dies_of logs bin = sum_by (λ (log : SlicedLog). dies_in bin log.bins) logs

-- the totals of the bins of all parts
abbrev pub sums_text : List SlicedLog → List ℕ
sums_text logs = flat_map (λ bin. total_line bin (dies_of logs bin)) (range_with_len 1 99)
