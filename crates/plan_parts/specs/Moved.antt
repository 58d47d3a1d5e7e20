-- A row under another site's number.
use Rattle.std.specs.Prelude.{ℕ}
use Rattle.plan_rows.specs.declared.row.Row.{Row}
use Rattle.plan_rows.specs.declared.row.Row.TheVariants as row

-- a row that names a site, with this number in its place; a row without a site stays
abbrev pub moved : ℕ → Row → Row
moved site (row.Lot lot) = row.Lot lot
moved site (row.Clock signal) = row.Clock signal
moved site (row.Bind bind) = row.Bind bind
moved site (row.Die die) = row.Die (record die { site = site })
moved site (row.Fault fault) = row.Fault (record fault { site = site })
moved site (row.Stop stop) = row.Stop (record stop { site = site })
moved site (row.Bin bin) = row.Bin bin
moved site (row.Skew skew) = row.Skew (record skew { site = site })
