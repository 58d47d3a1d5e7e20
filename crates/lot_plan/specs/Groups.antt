-- The rows of a plan by sites and their dies.
use Rattle.std.specs.Prelude.{◌≡◌, ℕ, ◌<◌, Option, List, [], ◌∷◌, ◌++◌, length, slice_get, slice_index_or, slice_set}
use Rattle.std.specs.List.{position_or_len}
use Rattle.std.specs.Option.{option_map, option_map_or, option_and_then}
use Rattle.std.specs.Str.{bytes_eq}
use Rattle.bench_net.specs.Circuit.{Circuit}
use Rattle.plan_rows.specs.declared.row.Row.{Row}
use Rattle.plan_rows.specs.declared.row.DieRow.{DieRow}
use Rattle.plan_rows.specs.declared.row.FaultRow.{FaultRow}
use Rattle.plan_rows.specs.declared.row.StopRow.{StopRow}
use Rattle.plan_rows.specs.Rows.{dies_at, faults_at, stops_at, sites_of}
use Rattle.lot_plan.specs.Bound.{no_circuit, die_at, file_of}

-- the rows of a die, and the number of its file
pub record DieRows : Type 0 where
  pub die : DieRow
  pub file : ℕ
  pub faults : List FaultRow
  pub stops : List StopRow

-- no rows
abbrev pub no_rows : DieRows
no_rows = record { die = record { site = 0; name = []; file = [] }; file = 0; faults = []; stops = [] }

-- a die of these
abbrev pub rows_of : List DieRows → ℕ → DieRows
rows_of dies die = slice_index_or dies die no_rows

-- a site of these
abbrev pub group_at : List (List DieRows) → ℕ → List DieRows
group_at sites site = slice_index_or sites site []

-- a die of a site of these
abbrev pub rows_at : List (List DieRows) → ℕ → ℕ → DieRows
rows_at sites site die = rows_of (group_at sites site) die

-- the number of the file of a die, if it is there
abbrev pub file_in : List (List DieRows) → ℕ → ℕ → Option ℕ
file_in sites site die = option_and_then (λ dies. option_map (λ d. d.file) (slice_get dies die)) (slice_get sites site)

-- the circuit of a die, if it is there
abbrev pub circuit_in : List (List DieRows) → List Circuit → ℕ → ℕ → Circuit
circuit_in sites circuits site die =
    option_map_or (λ file. slice_index_or circuits file no_circuit) (file_in sites site die) no_circuit

-- one more fault
abbrev pub with_fault : DieRows → FaultRow → DieRows
with_fault d f = record { die = d.die; file = d.file; faults = d.faults ++ f ∷ []; stops = d.stops }

-- one more stop
abbrev pub with_stop : DieRows → StopRow → DieRows
with_stop d s = record { die = d.die; file = d.file; faults = d.faults; stops = d.stops ++ s ∷ [] }

-- a die without faults and stops, by the number of its file
abbrev pub new_die : List (List ℕ) → DieRow → DieRows
new_die files d = record { die = d; file = position_or_len (bytes_eq d.file) files; faults = []; stops = [] }

-- one more die at its site
abbrev pub put_die : List (List ℕ) → List (List DieRows) → DieRow → List (List DieRows)
put_die files sites d = slice_set sites d.site (group_at sites d.site ++ new_die files d ∷ [])

-- one more fault at its die
abbrev pub put_fault : List (List DieRows) → FaultRow → List (List DieRows)
put_fault sites f =
    slice_set sites f.site (slice_set (group_at sites f.site) f.die (with_fault (rows_at sites f.site f.die) f))

-- one more stop at its die
abbrev pub put_stop : List (List DieRows) → StopRow → List (List DieRows)
put_stop sites s =
    slice_set sites s.site (slice_set (group_at sites s.site) s.die (with_stop (rows_at sites s.site s.die) s))

-- a die is there
pub record IsThere (sites : List (List DieRows)) (site number : ℕ) : Type 0 where
  pub here : site < length sites
  pub has : number < length (group_at sites site)

-- as many sites, with as many dies each
pub record HasShape (sites made : List (List DieRows)) : Type 0 where
  pub count : length made ≡ length sites
  pub each : (s : ℕ) → length (group_at made s) ≡ length (group_at sites s)

-- the rows of one die, by its site and number
pub record IsGroup (rows : List Row) (site number : ℕ) (d : DieRows) : Type 0 where
  pub die : d.die ≡ die_at rows site number
  pub file : d.file ≡ file_of rows site number
  pub faults : d.faults ≡ faults_at site number rows
  pub stops : d.stops ≡ stops_at site number rows

-- the rows of all dies
pub record AreGroups (rows : List Row) (sites : List (List DieRows)) : Type 0 where
  pub count : length sites ≡ sites_of rows
  pub dies : (s : ℕ) → s < length sites → length (group_at sites s) ≡ length (dies_at s rows)
  pub each : (s d : ℕ) → s < length sites → d < length (group_at sites s) → IsGroup rows s d (rows_at sites s d)
