-- A plan that is bound, as plain data, and what it is of each die.
use Rattle.std.specs.Prelude.{ℕ, ◌==◌, nat_le, Bool, true, Option, List, [], map, filter, slice_index_or}
use Rattle.std.specs.List.{find, position_or_len}
use Rattle.std.specs.Option.{option_map, option_map_or}
use Rattle.std.specs.Str.{bytes_eq}
use Rattle.bench_net.specs.Circuit.{Circuit, number}
use Rattle.die_sim.specs.Die.{Image}
use Rattle.die_sim.specs.declared.image.Binding.{Binding}
use Rattle.die_sim.specs.declared.image.StuckAt.{StuckAt}
use Rattle.packed_code.specs.declared.parts.CodeSignal.{CodeSignal}
use Rattle.packed_code.specs.Program.{Program}
use Rattle.plan_rows.specs.declared.row.Row.{Row}
use Rattle.plan_rows.specs.declared.row.DieRow.{DieRow}
use Rattle.plan_rows.specs.declared.row.FaultRow.{FaultRow}
use Rattle.plan_rows.specs.Rows.{dies_at, faults_at, stops_at, files_of}
use Rattle.lot_plan.specs.declared.bound_die.DieFault.{DieFault}
use Rattle.lot_plan.specs.Needs.{needs_of, clock_of}
use Rattle.lot_plan.specs.Binds.{binds_of, list_of}

-- the rows of a plan, the program that they are bound to, and the circuits of the plan's files, in order
pub record Bound : Type 0 where
  pub rows : List Row
  pub program : Program
  pub circuits : List Circuit

-- the signals of the program
abbrev pub signals_of : Bound → List CodeSignal
signals_of b = b.program.signals

-- no nets
abbrev pub no_circuit : Circuit
no_circuit = record { net = record { names = []; drivers = []; outputs = [] }; order = []; readers = [] }

-- a die of a site, by its number; of no name past the last
abbrev pub die_at : List Row → ℕ → ℕ → DieRow
die_at rows site die = slice_index_or (dies_at site rows) die (record { site = 0; name = []; file = [] })

-- the number of a die's file
abbrev pub file_of : List Row → ℕ → ℕ → ℕ
file_of rows site die = position_or_len (bytes_eq (die_at rows site die).file) (files_of rows)

-- the circuit of a die
abbrev pub circuit_of : Bound → ℕ → ℕ → Circuit
circuit_of b site die = slice_index_or b.circuits (file_of b.rows site die) no_circuit

-- how the signals are bound to a circuit
abbrev pub binding_to : Bound → Circuit → Binding
binding_to b c = record {
  clock = clock_of b.rows (signals_of b);
  nets = list_of (binds_of c (needs_of b.rows (signals_of b)));
}

-- how the signals are bound to the circuit of a die
abbrev pub binding_of : Bound → ℕ → ℕ → Binding
binding_of b site die = binding_to b (circuit_of b site die)

-- a fault row by the number of its net
abbrev pub numbered : Circuit → FaultRow → DieFault
numbered c f = record { stuck = record { net = number c.net.names f.net; value = f.value }; tries = f.tries }

-- whether a fault is active in the try of this number: in so many first tries, or in all
abbrev pub is_active : ℕ → DieFault → Bool
is_active try f = option_map_or (λ tries. nat_le try tries) f.tries true

-- the faults that are active in a try, in the order of their rows
abbrev pub active_at : ℕ → List DieFault → List StuckAt
active_at try faults = map (λ f. f.stuck) (filter (is_active try) faults)

-- the faults of a die
abbrev pub faults_of : Bound → ℕ → ℕ → List DieFault
faults_of b site die = map (numbered (circuit_of b site die)) (faults_at site die b.rows)

-- what is loaded for a try
abbrev pub loaded : Circuit → Binding → ℕ → List DieFault → Image
loaded c binding try faults = record {
  circuit = c;
  clock = binding.clock;
  binds = binding.nets;
  faults = active_at try faults;
}

-- what is loaded for a try of a die
abbrev pub image_of : Bound → ℕ → ℕ → ℕ → Image
image_of b site die try = loaded (circuit_of b site die) (binding_of b site die) try (faults_of b site die)

-- the batch before which the plan stops a try of a die
abbrev pub stop_of : List Row → ℕ → ℕ → ℕ → Option ℕ
stop_of rows site die try = option_map (λ s. s.batch) (find (λ s. s.number == try) (stops_at site die rows))
