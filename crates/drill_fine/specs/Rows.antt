-- What the records of a drill's plan are, and the rows that they make.
use Rattle.std.specs.Prelude.{ℕ, false, List, [], ◌∷◌, ◌++◌, codes, decimal, Some, None}
use Rattle.plan_rows.specs.declared.row.Row.{Row}
use Rattle.plan_rows.specs.declared.row.Row.TheVariants as row

-- the name of the last register
abbrev pub last_net : ℕ → List ℕ
last_net n = codes "f" ++ decimal n

-- a record of a die
abbrev pub die_record : List ℕ → List ℕ → List (List ℕ)
die_record site name = codes "die" ∷ site ∷ name ∷ codes "drill.bench" ∷ [] ∷ [] ∷ []

-- the records of the plan
abbrev pub drill_records : ℕ → List (List (List ℕ))
drill_records n =
    (codes "lot" ∷ codes "256" ∷ codes "1" ∷ codes "0" ∷ [] ∷ [] ∷ [])
    ∷ (codes "clock" ∷ codes "ck" ∷ [] ∷ [] ∷ [] ∷ [] ∷ [])
    ∷ (codes "bind" ∷ codes "q" ∷ last_net n ∷ [] ∷ [] ∷ [] ∷ [])
    ∷ die_record (codes "0") (codes "a") ∷ die_record (codes "1") (codes "b")
    ∷ die_record (codes "2") (codes "c") ∷ die_record (codes "3") (codes "d")
    ∷ (codes "fault" ∷ codes "1" ∷ codes "b" ∷ codes "f1" ∷ codes "0" ∷ [] ∷ [])
    ∷ []

-- a die of a site
abbrev pub die_row : ℕ → List ℕ → Row
die_row site name = row.Die (record { site = site; name = name; file = codes "drill.bench" })

-- the rows
abbrev pub drill_rows : ℕ → List Row
drill_rows n =
    row.Lot (record { batch = 256; tries = 1; keep = 0 }) ∷ row.Clock (codes "ck")
    ∷ row.Bind (record { signal = codes "q"; net = Some (last_net n) })
    ∷ die_row 0 (codes "a") ∷ die_row 1 (codes "b") ∷ die_row 2 (codes "c") ∷ die_row 3 (codes "d")
    ∷ row.Fault (record { site = 1; die = 0; net = codes "f1"; value = false; tries = None }) ∷ []
