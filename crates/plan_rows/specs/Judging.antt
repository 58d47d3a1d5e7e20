-- Records judged one after another, each by the rows before it.
use Rattle.std.specs.Prelude.{ℕ, ◌+◌, ◌*◌, ◌&&◌, ◌==◌, nat_lt, nat_le, pos, neg_ℤ, Bool, true, false, not, List, [], ◌∷◌, length, map, Option, Some, None, Result, Ok, Err, if◌then◌else◌}
use Rattle.std.specs.List.{list_any, position}
use Rattle.std.specs.Str.{bytes_eq}
use Rattle.text_bytes.specs.Numbers.{is_within}
use Rattle.answers.specs.Reading.{and_then, reading}
use Rattle.plan_rows.specs.Limits.{last_site, most_dies, most_batch, most_tries, most_keep, most_kept, last_batch, most_skew, last_executive, last_bin}
use Rattle.plan_rows.specs.Rows.{dies_of, dies_at, lot_of}
use Rattle.plan_rows.specs.Forms.{Written, a_lot, a_clock, a_bind, a_die, a_fault, a_stop, a_bin, a_skew, written_of}
use Rattle.plan_rows.specs.Subjects.{subject_of, same_subject}
use Rattle.plan_rows.specs.declared.row.Row.{Row}
use Rattle.plan_rows.specs.declared.row.Row.TheVariants as row
use Rattle.plan_rows.specs.declared.row.Ending.{Ending}
use Rattle.plan_rows.specs.declared.row.Ending.TheVariants.{Pass, Fail, Stopped, Contact}
use Rattle.plan_rows.specs.declared.fault.PlanFault.{PlanFault}
use Rattle.plan_rows.specs.declared.fault.PlanFault.TheVariants.{Shape, UnknownName, Twice, OutOfRange}

-- whether a record is the lot's own
abbrev pub is_lot : Written → Bool
is_lot (a_lot batch tries keep) = true
is_lot (a_clock signal) = false
is_lot (a_bind signal net) = false
is_lot (a_die site name file) = false
is_lot (a_fault site name net value tries) = false
is_lot (a_stop site name number batch) = false
is_lot (a_bin ending number) = false
is_lot (a_skew site signal back size) = false

-- the lot's own record is the first, and no other
abbrev pub stands : List Row → Written → Bool
stands before w = if length before == 0 then is_lot w else not (is_lot w)

-- a lot's numbers within their ranges
abbrev pub lot_fits : ℕ → ℕ → ℕ → Bool
lot_fits batch tries keep = is_within 1 most_batch batch && is_within 1 most_tries tries && nat_le keep most_keep

-- one more die: at most 4,096 of them, and at most 2^20 kept fails of all their tries
abbrev pub die_fits : List Row → Bool
die_fits before = nat_le (length (dies_of before) + 1) most_dies
    && nat_le ((length (dies_of before) + 1) * ((lot_of before).tries * (lot_of before).keep)) most_kept

-- the tries of a fault within their range; all tries where none are written
abbrev pub tries_fit : Option ℕ → Bool
tries_fit None = true
tries_fit (Some tries) = is_within 1 most_tries tries

-- an ending whose executive is within its range
abbrev pub ending_fits : Ending → Bool
ending_fits Pass = true
ending_fits (Fail executive) = nat_le executive last_executive
ending_fits Stopped = true
ending_fits Contact = true

-- the names of the dies of a site, in order
abbrev pub names_at : ℕ → List Row → List (List ℕ)
names_at site rows = map (λ d. d.name) (dies_at site rows)

-- the number of the die of this name at the site
abbrev pub number_at : List Row → ℕ → List ℕ → Option ℕ
number_at before site name = position (bytes_eq name) (names_at site before)

-- the row of a die that is there
abbrev pub of_die : ℕ → Option ℕ → (ℕ → Row) → Result Row PlanFault
of_die place None made = Err (UnknownName place)
of_die place (Some number) made = Ok (made number)

-- the row, where the numbers are within their ranges
abbrev pub within : ℕ → Bool → Result Row PlanFault → Result Row PlanFault
within place fits made = if fits then made else Err (OutOfRange place)

-- the row of this place behind those before it: its numbers within their ranges, and then its die
abbrev pub row_of : ℕ → List Row → Written → Result Row PlanFault
row_of place before (a_lot batch tries keep) = within place (lot_fits batch tries keep)
    (Ok (row.Lot (record { batch = batch; tries = tries; keep = keep })))
row_of place before (a_clock signal) = Ok (row.Clock signal)
row_of place before (a_bind signal net) = Ok (row.Bind (record { signal = signal; net = net }))
row_of place before (a_die site name file) = within place (nat_le site last_site && die_fits before)
    (Ok (row.Die (record { site = site; name = name; file = file })))
row_of place before (a_fault site name net value tries) =
    within place (nat_le site last_site && nat_le value 1 && tries_fit tries)
    (of_die place (number_at before site name)
    (λ die. row.Fault (record { site = site; die = die; net = net; value = value == 1; tries = tries })))
row_of place before (a_stop site name number batch) =
    within place (nat_le site last_site && is_within 1 most_tries number && nat_le batch last_batch)
    (of_die place (number_at before site name)
    (λ die. row.Stop (record { site = site; die = die; number = number; batch = batch })))
row_of place before (a_bin ending number) = within place (ending_fits ending && is_within 1 last_bin number)
    (Ok (row.Bin (record { ending = ending; bin = number })))
row_of place before (a_skew site signal back size) = within place (nat_le site last_site && nat_le size most_skew)
    (if nat_lt 0 (length (dies_at site before))
    then Ok (row.Skew (record { site = site; signal = signal; skew = (if back then neg_ℤ (pos size) else pos size) }))
    else Err (UnknownName place))

-- an earlier row is about the same
abbrev pub says_again : List Row → Row → Bool
says_again before x = list_any (same_subject (subject_of x)) (map subject_of before)

-- a record that has a form, and stands where it may
abbrev pub placed : ℕ → List Row → Option Written → Result Written PlanFault
placed place before None = Err (Shape place)
placed place before (Some w) = if stands before w then Ok w else Err (Shape place)

-- a row that says nothing again
abbrev pub once : ℕ → List Row → Row → Result Row PlanFault
once place before x = if says_again before x then Err (Twice place) else Ok x

-- the row of a record by its form and its place, and then by its numbers and its die; or its fault
abbrev pub row_at : ℕ → List Row → List (List ℕ) → Result Row PlanFault
row_at place before fields = and_then (placed place before (written_of fields)) (row_of place before)

-- the same, and no earlier row is about the same
abbrev pub judge_at : ℕ → List Row → List (List ℕ) → Result Row PlanFault
judge_at place before fields = and_then (row_at place before fields) (once place before)

-- the row of the record behind these rows, or its refusal
abbrev pub judge : List Row → List (List ℕ) → Result Row PlanFault
judge before fields = judge_at (length before + 1) before fields

-- the rows of a plan's records, or the first fault: a plan has a record
abbrev pub plan_of : List (List (List ℕ)) → Result (List Row) PlanFault
plan_of [] = Err (Shape 1)
plan_of (r ∷ rs) = reading judge [] (r ∷ rs)
