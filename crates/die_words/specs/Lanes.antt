-- 64 dies of one netlist at once: in each lane stands a die with faults of its own, and all are driven alike.
use Rattle.std.specs.Prelude.{◌≡◌, ℕ, ◌<◌, Bool, true, false, List, length, slice_index_or}
use Rattle.tester_types.specs.declared.level.Level.{Level}
use Rattle.bench_net.specs.declared.gate.Driver.{Driver}
use Rattle.bench_net.specs.declared.gate.Driver.TheVariants.{Input}
use Rattle.bench_net.specs.Gates.{level_at}
use Rattle.bench_net.specs.Wiring.{driver_at}
use Rattle.die_sim.specs.Die.{Image, Device, State, IsOfNet, Settled}
use Rattle.die_sim.specs.Walk.{is_off}
use Rattle.die_words.specs.declared.word.Word.{Word}
use Rattle.die_words.specs.Lane.{IsLane, AreFaults}

-- the netlist and the binding of all dies, the levels at which their nets are fixed, the clock's level, which inputs
-- are driven off, what inputs are driven to and flip-flops keep, and the levels of all nets
pub record Lanes : Type 0 where
  pub image : Image
  pub forces : List Word
  pub clock : Level
  pub offs : List Bool
  pub held : List Word
  pub words : List Word

-- these nets and no others are held off
pub record AreOff (offs : List Bool) (held : List Level) : Type 0 where
  pub count : length offs ≡ length held
  pub each : (n : ℕ) → n < length held → is_off (level_at held n) ≡ slice_index_or offs n false

-- inputs alone are driven off
pub record OnlyInputs (drivers : List Driver) (offs : List Bool) : Type 0 where
  pub each : (n : ℕ) → slice_index_or offs n false ≡ true → driver_at drivers n ≡ Input

-- in a lane stands this die, in this state
pub record IsLaneOf (lanes : Lanes) (lane : ℕ) (device : Device) (state : State) : Type 0 where
  pub net : IsOfNet device lanes.image
  pub faults : AreFaults lanes.forces lane device.fixed
  pub clock : state.clock ≡ lanes.clock
  pub offs : AreOff lanes.offs state.held
  pub held : IsLane lanes.held lane state.held
  pub levels : IsLane lanes.words lane state.levels
  pub size : length state.held ≡ length device.circuit.net.drivers
  pub settled : Settled device.circuit.net.drivers device.fixed state.held state.levels
