-- Known parts of known plans.
use Rattle.std.proofs.Common.{◌≡◌, ℕ, true, List, [], ◌∷◌, ◌++◌, None, refl}
use Rattle.std.specs.Prelude.{codes, pos}
use Rattle.std.specs.Fmt.{digits}
use Rattle.csv.specs.Writing.{default_writer, row_text, fields_text, is_blank, escaped}
use Rattle.plan_rows.specs.declared.row.Row.{Row}
use Rattle.plan_rows.specs.declared.row.Row.TheVariants as row
use Rattle.plan_parts.specs.Cut.{sites_with_dies, site_at, sites_in_part, part_rows}
use Rattle.plan_parts.specs.PartText.{with_site}

-- the rows of a die, of its site and its name
abbrev die : ℕ → List ℕ → Row
die site name = row.Die (record { site = site; name = name; file = codes "f" })

-- a plan of two sites with dies, a fault at the one and a skew at the other
abbrev small_plan : List Row
small_plan =
    row.Lot (record { batch = 256; tries = 1; keep = 0 }) ∷ row.Clock (codes "ck") ∷ die 7 (codes "a") ∷ die 3 (codes "b") ∷ die 3 (codes "c")
    ∷ row.Fault (record { site = 7; die = 0; net = codes "n"; value = true; tries = None })
    ∷ row.Skew (record { site = 3; signal = codes "q"; skew = pos 5 }) ∷ []

-- its sites with dies, by rising number
two_sites : sites_with_dies small_plan ≡ 3 ∷ 7 ∷ []
unfolding sites_with_dies
two_sites = refl

-- of two parts the first has site 3, with its skew
first_part : part_rows 2 0 small_plan
    ≡ row.Lot (record { batch = 256; tries = 1; keep = 0 }) ∷ row.Clock (codes "ck") ∷ die 0 (codes "b") ∷ die 0 (codes "c")
    ∷ row.Skew (record { site = 0; signal = codes "q"; skew = pos 5 }) ∷ []
unfolding part_rows sites_with_dies
first_part = refl

-- and the second has site 7, with its fault
second_part : part_rows 2 1 small_plan
    ≡ row.Lot (record { batch = 256; tries = 1; keep = 0 }) ∷ row.Clock (codes "ck") ∷ die 0 (codes "a")
    ∷ row.Fault (record { site = 0; die = 0; net = codes "n"; value = true; tries = None }) ∷ []
unfolding part_rows sites_with_dies
second_part = refl

-- a third part has no site
third_part : part_rows 3 2 small_plan ≡ row.Lot (record { batch = 256; tries = 1; keep = 0 }) ∷ row.Clock (codes "ck") ∷ []
unfolding part_rows sites_with_dies
third_part = refl

-- in one part the sites stand as their ranks
one_part : part_rows 1 0 small_plan
    ≡ row.Lot (record { batch = 256; tries = 1; keep = 0 }) ∷ row.Clock (codes "ck") ∷ die 1 (codes "a") ∷ die 0 (codes "b") ∷ die 0 (codes "c")
    ∷ row.Fault (record { site = 1; die = 0; net = codes "n"; value = true; tries = None })
    ∷ row.Skew (record { site = 0; signal = codes "q"; skew = pos 5 }) ∷ []
unfolding part_rows sites_with_dies
one_part = refl

-- the site of number 0 in the second part is 7
site_seven : site_at 2 1 small_plan 0 ≡ 7
unfolding sites_with_dies
site_seven = refl

-- of five ranks in two parts the first has three and the second two
three_and_two : (sites_in_part 2 0 5 ∷ sites_in_part 2 1 5 ∷ []) ≡ 3 ∷ 2 ∷ []
three_and_two = refl

-- a name with a comma and a quote is quoted again under another number
quoted_name : row_text default_writer (with_site (codes "die" ∷ codes "7" ∷ codes "a" ∷ (120 ∷ 44 ∷ 34 ∷ []) ∷ [] ∷ [] ∷ []) 12)
    ≡ codes "die,12,a," ++ (34 ∷ 120 ∷ 44 ∷ 34 ∷ 34 ∷ 34 ∷ []) ++ codes ",,\n"
unfolding digits is_blank fields_text escaped
quoted_name = refl
