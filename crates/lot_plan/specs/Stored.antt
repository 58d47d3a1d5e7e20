-- What a plan and a bound plan keep in store.
use Rattle.std.specs.Prelude.{◌≡◌, ℕ, ◌<◌, ◌+◌, ◌^◌, ℤ, Option, Some, List, [], length, map, slice_get, slice_index_or}
use Rattle.die_sim.specs.declared.image.Binding.{Binding}
use Rattle.plan_rows.specs.declared.row.Row.{Row}
use Rattle.plan_rows.specs.declared.row.LotRow.{LotRow}
use Rattle.plan_rows.specs.declared.row.BinRow.{BinRow}
use Rattle.plan_rows.specs.Rows.{AreKept, each_of, as_bin, dies_at, stops_at, sites_of, files_of, lot_of}
use Rattle.lot_plan.specs.declared.bound_die.BoundDie.{BoundDie}
use Rattle.lot_plan.specs.Bound.{Bound, die_at, file_of, image_of, binding_to}
use Rattle.lot_plan.specs.Readings.{first_of}
use Rattle.lot_plan.specs.Skews.{site_skews}
use Rattle.lot_plan.specs.Refusal.{IsBound}

-- what a plan keeps beside its rows
pub record HasSitesAndFiles (rows : List Row) (sites : ℕ) (files : List (List ℕ)) : Type 0 where
  pub kept : AreKept rows
  pub few : length rows < 2 ^ 32
  pub count : sites ≡ sites_of rows
  pub named : files ≡ files_of rows

-- a die past the last
abbrev pub no_die : BoundDie
no_die = record { name = []; file = 0; images = []; stops = [] }

-- the dies of a site in store
abbrev pub stored_in : List (List BoundDie) → ℕ → List BoundDie
stored_in sites site = slice_index_or sites site []

-- a die of a site in store
abbrev pub stored_at : List (List BoundDie) → ℕ → ℕ → BoundDie
stored_at sites site die = slice_index_or (stored_in sites site) die no_die

-- what is in store of a die
pub record IsStored (b : Bound) (site die : ℕ) (d : BoundDie) : Type 0 where
  pub name : d.name ≡ (die_at b.rows site die).name
  pub file : d.file ≡ file_of b.rows site die
  pub there : d.file < length b.circuits
  pub tries : length d.images ≡ (lot_of b.rows).tries
  pub images : (try : ℕ) → try < length d.images → slice_get d.images try ≡ Some (image_of b site die (try + 1))
  pub stops : d.stops ≡ stops_at site die b.rows

-- what is in store of all dies
pub record AreStored (b : Bound) (sites : List (List BoundDie)) : Type 0 where
  pub count : length sites ≡ sites_of b.rows
  pub dies : (s : ℕ) → s < length sites → length (stored_in sites s) ≡ length (dies_at s b.rows)
  pub each : (s d : ℕ) → s < length sites → d < length (stored_in sites s) → IsStored b s d (stored_at sites s d)

-- the skews of the signals at each site
pub record AreSkews (b : Bound) (skews : List (List ℤ)) : Type 0 where
  pub count : length skews ≡ sites_of b.rows
  pub each : (s : ℕ) → s < length skews → slice_index_or skews s [] ≡ site_skews b s

-- what is in store of a bound plan
pub record IsInStore (b : Bound) (lot : LotRow) (first : Option (ℕ × ℕ)) (bins : List BinRow) (skews : List (List ℤ))
    (bindings : List Binding) (sites : List (List BoundDie)) : Type 0 where
  pub bound : IsBound b
  pub own : lot ≡ lot_of b.rows
  pub begins : first ≡ first_of b.rows
  pub binned : bins ≡ each_of as_bin b.rows
  pub skewed : AreSkews b skews
  pub wired : bindings ≡ map (binding_to b) b.circuits
  pub dies : AreStored b sites

-- what is made of a plan that nothing refuses
pub record IsMade (b : Bound) (bindings : List Binding) (sites : List (List BoundDie)) : Type 0 where
  pub bound : IsBound b
  pub wired : bindings ≡ map (binding_to b) b.circuits
  pub dies : AreStored b sites
