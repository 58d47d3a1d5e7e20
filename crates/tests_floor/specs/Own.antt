-- The binding that the tests use: each net is the signal of its own number, which drives it where it is an input,
-- else shows it.
use Rattle.std.specs.Prelude.{◌≡◌, ℕ, ◌+◌, ◌<◌, Bool, true, false, if◌then◌else◌, Some, List, length, slice_index_or, ◌⊎◌}
use Rattle.tester_types.specs.declared.level.Drive.{Drive}
use Rattle.bench_net.specs.declared.gate.Driver.{Driver}
use Rattle.bench_net.specs.declared.gate.Driver.TheVariants.{Input, Dff, Gate}
use Rattle.bench_net.specs.Wiring.{driver_at}
use Rattle.bench_net.specs.Circuit.{Circuit}
use Rattle.die_sim.specs.declared.image.Bind.{Bind}
use Rattle.die_sim.specs.declared.image.Bind.TheVariants as bind
use Rattle.die_sim.specs.Die.{Image, Device, bind_at, is_clock}

-- whether the net is an input
abbrev pub is_input : Driver → Bool
is_input Input = true
is_input (Dff d) = false
is_input (Gate kind pins) = false

-- how the signal of a net's number is bound
abbrev pub own_bind : List Driver → ℕ → Bind
own_bind drivers n = if is_input (driver_at drivers n) then bind.Input n else bind.Output n

-- each net is bound so
pub record AreOwn (drivers : List Driver) (binds : List Bind) (nets : ℕ) : Type 0 where
  pub count : length binds ≡ nets
  pub each : (n : ℕ) → n < nets → bind_at binds n ≡ own_bind drivers n

-- an image with this binding, and its clock
pub record IsOwnImage (number : ℕ) (i : Image) : Type 0 where
  pub clock : i.clock ≡ Some number
  pub own : AreOwn i.circuit.net.drivers i.binds (length i.circuit.net.drivers)

-- a die with this circuit, clock and binding
pub record IsOwnDevice (c : Circuit) (number : ℕ) (d : Device) : Type 0 where
  pub circuit : d.circuit ≡ c
  pub clock : d.clock ≡ Some number
  pub own : AreOwn c.net.drivers d.binds (length c.net.drivers)

-- drives of inputs and of the clock, signals rising
pub record AreOwnDrives (drivers : List Driver) (clock : ℕ) (drives : List (ℕ × Drive)) : Type 0 where
  pub rising : (k : ℕ) (a b : ℕ × Drive) → k + 1 < length drives
      → (slice_index_or drives k a).0 < (slice_index_or drives (k + 1) b).0
  pub each : (k : ℕ) (a : ℕ × Drive) → k < length drives
      → (is_clock (Some clock) (slice_index_or drives k a).0 ≡ true)
      ⊎ (((slice_index_or drives k a).0 < length drivers)
      × (is_input (driver_at drivers (slice_index_or drives k a).0) ≡ true))
