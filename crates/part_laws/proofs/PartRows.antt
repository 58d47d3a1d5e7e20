-- The rows of a part that name a number or no site are those of the number's site, moved.
use Rattle.std.proofs.Common.{◌≡◌, ℕ, ◌<◌, List, map, sym}
use Rattle.std.specs.Prelude.{length}
use Rattle.plan_rows.specs.declared.row.Row.{Row}
use Rattle.plan_rows.specs.Plan.{IsPlan}
use Rattle.site_meaning.specs.Part.{rows_for}
use Rattle.plan_parts.specs.Cut.{part_rows, site_at, sites_in_part, sites_with_dies}
use Rattle.plan_parts.specs.Moved.{moved}
use Rattle.plan_parts.proofs.PartLemmas.{rows_of_site}

-- the rows of a number
pub rows_of_number : (bytes : List ℕ) (rows : List Row) (parts part number : ℕ) → part < parts
    → IsPlan bytes rows
    → number < sites_in_part parts part (length (sites_with_dies rows))
    → map (moved number) (rows_for (site_at parts part rows number) rows)
    ≡ rows_for number (part_rows parts part rows)
unfolding rows_for
rows_of_number bytes rows parts part number less plan low =
    sym (rows_of_site bytes rows parts part number less plan low)
