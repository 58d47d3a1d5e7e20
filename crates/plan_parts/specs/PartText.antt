-- How the plan of a part is written: each of its records as it was, but for the site's number.
use Rattle.std.specs.Prelude.{◌≡◌, ℕ, Option, List, [], ◌∷◌, ◌++◌, decimal, Ok}
use Rattle.std.specs.List.{flat_map}
use Rattle.csv.specs.Writing.{default_writer, row_text}
use Rattle.plan_rows.specs.declared.row.Row.{Row}
use Rattle.plan_rows.specs.Rows.{one, site_in}
use Rattle.plan_rows.specs.Judging.{plan_of}
use Rattle.plan_rows.specs.Plan.{HasRecords}
use Rattle.plan_parts.specs.Cut.{of_site}

-- the fields of a record with this number in the place of its site, which stands behind the record's kind
abbrev pub with_site : List (List ℕ) → ℕ → List (List ℕ)
with_site [] number = []
with_site (kind ∷ []) number = kind ∷ []
with_site (kind ∷ site ∷ fields) number = kind ∷ decimal number ∷ fields

-- what a part has of a record that says this row
abbrev pub record_in : ℕ → ℕ → List Row → Row → List (List ℕ) → Option (List (List ℕ))
record_in parts part rows r fields = of_site parts part rows fields (with_site fields) (site_in r)

-- the records of a part: of each record and the row that it says, in the plan's order
abbrev pub records_in : ℕ → ℕ → List Row → List Row → List (List (List ℕ)) → List (List (List ℕ))
records_in parts part rows [] records = []
records_in parts part rows (r ∷ later) [] = []
records_in parts part rows (r ∷ later) (fields ∷ records) =
    one (record_in parts part rows r fields) ++ records_in parts part rows later records

-- records as comma-separated values, each ended by a line feed
abbrev pub records_text : List (List (List ℕ)) → List ℕ
records_text records = flat_map (row_text default_writer) records

-- the text is that of a part of the plan that these bytes are, which has these rows
pub record IsPartText (parts part : ℕ) (bytes : List ℕ) (rows : List Row) (text : List ℕ) : Type 0 where
  pub records : List (List (List ℕ))
  pub are : HasRecords bytes records
  pub read : plan_of records ≡ Ok rows
  pub is : text ≡ records_text (records_in parts part rows rows records)
