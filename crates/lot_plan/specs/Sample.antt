-- A small plan that known facts and tests speak of.
use Rattle.std.specs.Prelude.{ℕ, true, Some, List, [], ◌∷◌}
use Rattle.plan_rows.specs.declared.row.Row.{Row}
use Rattle.plan_rows.specs.declared.row.Row.TheVariants as row
use Rattle.plan_rows.specs.declared.row.Ending.{Ending}

-- the rows of a lot of two tries alone
abbrev pub lot_alone : List Row
lot_alone = row.Lot (record { batch = 10; tries = 2; keep = 4 }) ∷ []

-- the same lot, a die d of site 0 in the file f, a fault of its first try at 1, a stop of its second try before batch
-- 7, and a bin 9
abbrev pub one_die : List ℕ → Ending → List Row
one_die net ending =
    row.Lot (record { batch = 10; tries = 2; keep = 4 })
    ∷ row.Die (record { site = 0; name = 100 ∷ []; file = 102 ∷ [] })
    ∷ row.Fault (record { site = 0; die = 0; net = net; value = true; tries = Some 1 })
    ∷ row.Stop (record { site = 0; die = 0; number = 2; batch = 7 })
    ∷ row.Bin (record { ending = ending; bin = 9 })
    ∷ []
