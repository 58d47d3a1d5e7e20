-- What a site's tries run on: the program, the plan's rows of the site and of no site, and the circuits of its dies.
use Rattle.std.specs.Prelude.{◌≡◌, ℕ, ℤ, All, true, Option, List, map, filter, length, slice_index_or}
use Rattle.std.specs.List.{position_or_len, range_with_len}
use Rattle.std.specs.Str.{bytes_eq}
use Rattle.bench_net.specs.Circuit.{Circuit}
use Rattle.die_sim.specs.Die.{Image, device_of}
use Rattle.packed_code.specs.Program.{Program}
use Rattle.packed_code.specs.Conditions.{IsProgram}
use Rattle.edge_gen.specs.Signals.{keeps_inside}
use Rattle.plan_rows.specs.declared.row.Row.{Row}
use Rattle.plan_rows.specs.declared.row.LotRow.{LotRow}
use Rattle.plan_rows.specs.Rows.{IsLot, dies_at, faults_at, skews_at, files_of, lot_of, is_about}
use Rattle.lot_plan.specs.Bound.{Bound, no_circuit, circuit_of, binding_to, numbered, loaded, stop_of}
use Rattle.lot_plan.specs.Skews.{skews_of}
use Rattle.site_meaning.specs.Playing.{Stand}

-- the part of a plan that a site carries: the circuits are those of the site's dies, in order
pub record Part : Type 0 where
  pub site : ℕ
  pub code : Program
  pub rows : List Row
  pub circuits : List Circuit

-- the rows of a site, and those that name no site
unfoldable pub rows_for : ℕ → List Row → List Row
rows_for site rows = filter (is_about site) rows

-- the circuits of a site's dies
unfoldable pub circuits_for : Bound → ℕ → List Circuit
circuits_for plan site = map (circuit_of plan site) (range_with_len 0 (length (dies_at site plan.rows)))

-- the part of a site
abbrev pub part_of : Bound → ℕ → Part
part_of plan site = record {
  site = site;
  code = plan.program;
  rows = rows_for site plan.rows;
  circuits = circuits_for plan site;
}

-- the circuit of a file of a plan
abbrev pub circuit_for : Bound → List ℕ → Circuit
circuit_for plan file = slice_index_or plan.circuits (position_or_len (bytes_eq file) (files_of plan.rows)) no_circuit

-- the plan with the rows of one site and those that name no site alone, and the circuits of their files
abbrev pub only : ℕ → Bound → Bound
only site plan = record {
  rows = rows_for site plan.rows;
  program = plan.program;
  circuits = map (circuit_for plan) (files_of (rows_for site plan.rows));
}

-- ---- what the part says

-- the numbers of the lot: cycles of a batch, tries, and fails that are kept
abbrev pub lot_in : Part → LotRow
lot_in part = lot_of part.rows

-- how many dies are planned
abbrev pub dies_in : Part → ℕ
dies_in part = length (dies_at part.site part.rows)

-- the skew of each signal
unfoldable pub skews_in : Part → List ℤ
skews_in part = skews_of part.code.signals (skews_at part.site part.rows)

-- the circuit of a die
abbrev pub circuit_in : Part → ℕ → Circuit
circuit_in part die = slice_index_or part.circuits die no_circuit

-- the rows as those of a plan
abbrev pub as_plan : Part → Bound
as_plan part = record { rows = part.rows; program = part.code; circuits = part.circuits }

-- what is loaded for a try of a die
unfoldable pub image_in : Part → ℕ → ℕ → Image
image_in part die number =
    loaded (circuit_in part die) (binding_to (as_plan part) (circuit_in part die)) number
    (map (numbered (circuit_in part die)) (faults_at part.site die part.rows))

-- the batch before which the plan stops a try of a die
unfoldable pub order_in : Part → ℕ → ℕ → Option ℕ
order_in part die number = stop_of part.rows part.site die number

-- what a try of a die runs on
abbrev pub stand_for : Part → ℕ → ℕ → Stand
stand_for part die number = record {
  code = part.code;
  skews = skews_in part;
  device = device_of (image_in part die number);
}

-- what an accepted plan gives a site: a whole program, skews that keep each event inside its cycle, and a lot's numbers
pub record IsPart (part : Part) : Type 0 where
  pub code : IsProgram part.code
  pub inside : All (λ table. keeps_inside table (skews_in part) ≡ true) part.code.tables
  pub lot : IsLot (lot_in part)
