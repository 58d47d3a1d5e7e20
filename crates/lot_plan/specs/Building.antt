-- The dies of a plan as they are built: from the rows of each, its circuit and its binding.
use Rattle.std.specs.Prelude.{◌≡◌, ℕ, ◌<◌, ◌+◌, Some, None, List, [], length, map, slice_get, slice_index_or}
use Rattle.bench_net.specs.Circuit.{Circuit}
use Rattle.die_sim.specs.Die.{Image, IsSound}
use Rattle.die_sim.specs.declared.image.Binding.{Binding}
use Rattle.lot_plan.specs.declared.bound_die.BoundDie.{BoundDie}
use Rattle.lot_plan.specs.declared.bound_die.DieFault.{DieFault}
use Rattle.lot_plan.specs.Bound.{no_circuit, numbered, loaded}
use Rattle.lot_plan.specs.Groups.{DieRows, rows_of, group_at}
use Rattle.lot_plan.specs.Stored.{no_die, stored_in}

-- no signals
abbrev pub no_binding : Binding
no_binding = record { clock = None; nets = [] }

-- the circuit of a file
abbrev pub circuit_no : List Circuit → ℕ → Circuit
circuit_no circuits file = slice_index_or circuits file no_circuit

-- the binding of a file
abbrev pub binding_no : List Binding → ℕ → Binding
binding_no bindings file = slice_index_or bindings file no_binding

-- what is loaded for each of so many tries
pub record AreImages (c : Circuit) (binding : Binding) (faults : List DieFault) (tries : ℕ)
    (images : List Image) : Type 0 where
  pub count : length images ≡ tries
  pub each : (k : ℕ) → k < length images → slice_get images k ≡ Some (loaded c binding (k + 1) faults)

-- a die is made of its rows
pub record IsBuilt (c : Circuit) (binding : Binding) (tries : ℕ) (rows : DieRows) (d : BoundDie) : Type 0 where
  pub name : d.name ≡ rows.die.name
  pub file : d.file ≡ rows.file
  pub images : AreImages c binding (map (numbered c) rows.faults) tries d.images
  pub stops : d.stops ≡ rows.stops

-- the file of a die is there, and what its tries load is sound
pub record IsReady (circuits : List Circuit) (bindings : List Binding) (rows : DieRows) : Type 0 where
  pub net : rows.file < length circuits
  pub bind : rows.file < length bindings
  pub sound : (number : ℕ) → IsSound (loaded (circuit_no circuits rows.file) (binding_no bindings rows.file) number
      (map (numbered (circuit_no circuits rows.file)) rows.faults))

-- each die of a site is ready
abbrev pub IsSiteReady : List Circuit → List Binding → List DieRows → Type 0
IsSiteReady circuits bindings site = (d : ℕ) → d < length site → IsReady circuits bindings (rows_of site d)

-- the dies of a site are made of their rows, in order
pub record IsSiteBuilt (circuits : List Circuit) (bindings : List Binding) (tries : ℕ) (site : List DieRows)
    (dies : List BoundDie) : Type 0 where
  pub count : length dies ≡ length site
  pub each : (d : ℕ) → d < length dies
      → IsBuilt (circuit_no circuits (rows_of site d).file) (binding_no bindings (rows_of site d).file) tries
      (rows_of site d) (slice_index_or dies d no_die)

-- each die of each site is ready
abbrev pub AreReady : List Circuit → List Binding → List (List DieRows) → Type 0
AreReady circuits bindings sites = (s : ℕ) → s < length sites → IsSiteReady circuits bindings (group_at sites s)

-- the dies of all sites are made of their rows, site by site
pub record AreBuilt (circuits : List Circuit) (bindings : List Binding) (tries : ℕ) (sites : List (List DieRows))
    (dies : List (List BoundDie)) : Type 0 where
  pub count : length dies ≡ length sites
  pub each : (s : ℕ) → s < length dies → IsSiteBuilt circuits bindings tries (group_at sites s) (stored_in dies s)
