-- The floor of two parts of a plan with dies at the sites 1 and 3: known sockets and stops.
use Rattle.std.proofs.Common.{◌≡◌, ℕ, true, List, [], ◌∷◌, refl}
use Rattle.plan_rows.specs.declared.row.Row.{Row}
use Rattle.plan_rows.specs.declared.row.Row.TheVariants as row
use Rattle.stil_tool.specs.Lot.{Floor}
use Rattle.plan_parts.specs.Cut.{sites_with_dies}
use Rattle.part_laws.specs.Runs.{joined}

-- a die of a site
abbrev die_of : ℕ → Row
die_of site = row.Die (record { site = site; name = []; file = [] })

-- the plan, with two dies at the site 1
abbrev rows : List Row
rows = die_of 1 ∷ die_of 3 ∷ die_of 1 ∷ []

-- a floor of one socket, for which so many stops were said
abbrev floor : ℕ → ℕ → Floor ℕ
floor socket stops = record { sockets = socket ∷ []; stops = λ site. stops; asked = true }

-- the floor of both parts, with idle sockets of the number 9
abbrev both : Floor ℕ
both = joined 9 (floor 5 2 ∷ floor 7 4 ∷ []) rows

-- the sites with dies have the sockets of their parts, in turn
sockets_known : both.sockets ≡ 9 ∷ 5 ∷ 9 ∷ 7 ∷ []
unfolding sites_with_dies
sockets_known = refl

-- and their stops
stops_known : both.stops 3 ≡ 4
unfolding sites_with_dies
stops_known = refl

-- for a site without dies none are said
none_known : both.stops 2 ≡ 0
none_known = refl
