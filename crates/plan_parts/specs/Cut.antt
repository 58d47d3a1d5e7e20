-- Which rows of a plan each of its parts has. The sites with dies go round the parts: of so many parts, the first site
-- belongs to part 0, the next one to part 1, and so on, and again from part 0. Parts are counted from 0 here.
use Rattle.std.specs.Prelude.{ℕ, ◌+◌, ◌*◌, ◌/◌, ◌%◌, ◌==◌, ◌<◌, ◌≤◌, nat_lt, Bool, Option, Some, None, List, filter, length, slice_index_or, if◌then◌else◌}
use Rattle.std.specs.List.{position_or_len, range_with_len}
use Rattle.text_bytes.specs.Limits.{most_sites}
use Rattle.plan_rows.specs.declared.row.Row.{Row}
use Rattle.plan_rows.specs.Rows.{dies_at, each_of, sites_of, site_in}
use Rattle.plan_parts.specs.Moved.{moved}

-- ---- sites

-- whether a site has a die
abbrev pub has_dies : List Row → ℕ → Bool
has_dies rows site = nat_lt 0 (length (dies_at site rows))

-- the sites that have dies, by rising number
unfoldable pub sites_with_dies : List Row → List ℕ
sites_with_dies rows = filter (has_dies rows) (range_with_len 0 (sites_of rows))

-- the rank of a site among those that have dies, from 0
abbrev pub rank_of : List Row → ℕ → ℕ
rank_of rows site = position_or_len (λ s. s == site) (sites_with_dies rows)

-- how many of so many ranks go to a part of so many: ranks go round
abbrev pub sites_in_part : ℕ → ℕ → ℕ → ℕ
sites_in_part parts part ranks = length (filter (λ rank. rank % parts == part) (range_with_len 0 ranks))

-- the rank of the site that has this number in a part
abbrev pub rank_at : ℕ → ℕ → ℕ → ℕ
rank_at parts part number = part + number * parts

-- the site that has this number in a part
abbrev pub site_at : ℕ → ℕ → List Row → ℕ → ℕ
site_at parts part rows number = slice_index_or (sites_with_dies rows) (rank_at parts part number) 0

-- ---- rows

-- What a part has of something that is said of the site of this rank: nothing where the site belongs to another part,
-- else the same under the site's number there.
abbrev pub of_rank : {A : Type 0} → ℕ → ℕ → (ℕ → A) → ℕ → Option A
of_rank parts part said rank = if rank % parts == part then Some (said (rank / parts)) else None

-- what a part has of something that is said of a site, or of none: the latter as it is
abbrev pub of_site : {A : Type 0} → ℕ → ℕ → List Row → A → (ℕ → A) → Option ℕ → Option A
of_site parts part rows same said None = Some same
of_site parts part rows same said (Some site) = of_rank parts part said (rank_of rows site)

-- what a part has of a row: rows that name no site stand in each part
abbrev pub row_in : ℕ → ℕ → List Row → Row → Option Row
row_in parts part rows r = of_site parts part rows r (λ number. moved number r) (site_in r)

-- the rows of a part, in the plan's order
unfoldable pub part_rows : ℕ → ℕ → List Row → List Row
part_rows parts part rows = each_of (row_in parts part rows) rows

-- ---- how many parts

-- no part of so many has more sites with dies than a tester has sockets
pub record AreEnough (rows : List Row) (parts : ℕ) : Type 0 where
  pub some : 1 ≤ parts
  pub each : (part : ℕ) → part < parts → sites_in_part parts part (length (sites_with_dies rows)) ≤ most_sites

-- so many parts are enough, and fewer aren't
pub record AreNeeded (rows : List Row) (parts : ℕ) : Type 0 where
  pub enough : AreEnough rows parts
  pub least : (fewer : ℕ) → AreEnough rows fewer → parts ≤ fewer
