-- The code's values without where they lie in memory; no public clause cites them.
use Rattle.std.specs.Prelude.{List, [], ◌∷◌, ℕ, Option, option_map, Result, Ok, Err}
use Rattle.std.specs.Borrow.{Bor}
use Rattle.plan_rows.specs.Forms.{Written, a_lot, a_clock, a_bind, a_die, a_fault, a_stop, a_bin, a_skew}
use Rattle.plan_rows.specs.declared.row.Ending.{Ending}
use Rattle.plan_rows.specs.declared.row.Ending.TheVariants.{Pass, Fail, Stopped, Contact}
use Rattle.plan_rows.specs.declared.fault.PlanFault.{PlanFault}
use Rattle.plan_rows.specs.declared.written as written
use Rattle.plan_rows.specs.declared.written.Ended.TheVariants as ended
use Rattle.plan_rows.specs.declared.written.Written.TheVariants as says

-- the five fields behind the kind
abbrev pub behind_kind : written.Columns.Columns → List (List ℕ)
behind_kind r = r.second.now ∷ r.third.now ∷ r.fourth.now ∷ r.fifth.now ∷ r.sixth.now ∷ []

-- the six fields
abbrev pub columns_seen : written.Columns.Columns → List (List ℕ)
columns_seen r = r.kind.now ∷ behind_kind r

-- an ending
abbrev pub ending_seen : written.Ended.Ended → Ending
ending_seen ended.Pass = Pass
ending_seen (ended.Fail executive) = Fail executive
ending_seen ended.Stopped = Stopped
ending_seen ended.Contact = Contact

-- a net that may be none
abbrev pub net_seen : Option (Bor (List ℕ)) → Option (List ℕ)
net_seen net = option_map (λ n. n.now) net

-- a stuck net
abbrev pub fault_seen : written.WrittenFault.WrittenFault → Written
fault_seen f = a_fault f.site f.name.now f.net.now f.value f.tries

-- what a record says
abbrev pub written_seen : written.Written.Written → Written
written_seen (says.Lot batch tries keep) = a_lot batch tries keep
written_seen (says.Clock signal) = a_clock signal.now
written_seen (says.Bind signal net) = a_bind signal.now (net_seen net)
written_seen (says.Die site name file) = a_die site name.now file.now
written_seen (says.Fault fault) = fault_seen fault
written_seen (says.Stop site name number batch) = a_stop site name.now number batch
written_seen (says.Bin ending number) = a_bin (ending_seen ending) number
written_seen (says.Skew site signal back size) = a_skew site signal.now back size

-- what a record says, or its fault
abbrev pub placed_seen : Result written.Written.Written PlanFault → Result Written PlanFault
placed_seen (Ok w) = Ok (written_seen w)
placed_seen (Err e) = Err e
