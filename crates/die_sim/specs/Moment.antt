-- One moment of a die: the clock's change is judged, the flip-flops capture, the inputs take their levels, and all
-- settles.
use Rattle.std.specs.Prelude.{◌≡◌, ℕ, ◌<◌, ◌+◌, true, if◌then◌else◌, List, length, fold, slice_index_or, slice_set, Option, ◌⊎◌}
use Rattle.tester_types.specs.declared.level.Level.{Level}
use Rattle.tester_types.specs.declared.level.Level.TheVariants.{Zero, One, X, Z}
use Rattle.tester_types.specs.declared.level.Drive.{Drive}
use Rattle.tester_types.specs.declared.level.Drive.TheVariants.{Down, Up, Off, Unknown}
use Rattle.bench_net.specs.declared.gate.Driver.{Driver}
use Rattle.bench_net.specs.declared.gate.Driver.TheVariants.{Input, Dff, Gate}
use Rattle.bench_net.specs.Wiring.{driver_at}
use Rattle.die_sim.specs.declared.image.Bind.{Bind}
use Rattle.die_sim.specs.declared.image.Bind.TheVariants as bind
use Rattle.die_sim.specs.declared.moment.Edge.{Edge}
use Rattle.die_sim.specs.declared.moment.Edge.TheVariants.{Takes, Doubts, Keeps}
use Rattle.bench_net.specs.Gates.{level_at, read}
use Rattle.die_sim.specs.Die.{Device, State, bind_at, is_clock, Settled}

-- the level of a drive
abbrev pub drive_level : Drive → Level
drive_level Down = Zero
drive_level Up = One
drive_level Off = Z
drive_level Unknown = X

-- what the clock's change means, off read as unknown: from 0 to 1 it is an edge, from 0 to unknown or from unknown to 1
-- perhaps one, else none
abbrev pub edge : Level → Level → Edge
edge Zero Zero = Keeps
edge Zero One = Takes
edge Zero X = Doubts
edge Zero Z = Doubts
edge One new = Keeps
edge X Zero = Keeps
edge X One = Doubts
edge X X = Keeps
edge X Z = Keeps
edge Z Zero = Keeps
edge Z One = Doubts
edge Z X = Keeps
edge Z Z = Keeps

-- a level that stays where the other equals it, else unknown
abbrev pub agreed : Level → Level → Level
agreed Zero Zero = Zero
agreed Zero One = X
agreed Zero X = X
agreed Zero Z = X
agreed One Zero = X
agreed One One = One
agreed One X = X
agreed One Z = X
agreed X d = X
agreed Z d = X

-- what a flip-flop keeps after an edge, by what it kept and the level of its D net
abbrev pub capture : Edge → Level → Level → Level
capture Takes own d = read d
capture Doubts own d = agreed own d
capture Keeps own d = own

-- what is kept at a net: only flip-flops capture, and from the levels before the moment
abbrev pub captured : Driver → Edge → Level → List Level → Level
captured Input e own before = own
captured (Dff d) e own before = capture e own (level_at before d)
captured (Gate kind pins) e own before = own

-- the flip-flops have captured
pub record Captures (drivers : List Driver) (e : Edge) (before old new : List Level) : Type 0 where
  pub count : length new ≡ length old
  pub each : (n : ℕ) → n < length drivers → level_at new n ≡ captured (driver_at drivers n) e (level_at old n) before

-- the clock's level after a drive
abbrev pub clock_put : Option ℕ → Level → ℕ × Drive → Level
clock_put clock was d = if is_clock clock d.0 then drive_level d.1 else was

-- the clock's level after these drives
abbrev pub clock_after : Option ℕ → Level → List (ℕ × Drive) → Level
clock_after clock was drives = fold (clock_put clock) was drives

-- what inputs are driven to, after a drive
abbrev pub put_at : Bind → Drive → List Level → List Level
put_at bind.Free d held = held
put_at (bind.Input n) d held = slice_set held n (drive_level d)
put_at (bind.Output n) d held = held

-- the net of the binding, if it has one, is below this number
abbrev pub IsWithin : ℕ → Bind → Type 0
IsWithin nets bind.Free = Unit {0}
IsWithin nets (bind.Input n) = n < nets
IsWithin nets (bind.Output n) = n < nets

-- what inputs are driven to, after these drives
abbrev pub put_all : List Bind → List Level → List (ℕ × Drive) → List Level
put_all binds held drives = fold (λ h d. put_at (bind_at binds d.0) d.1 h) held drives

-- a signal that can be driven: the clock, or bound to an input
abbrev pub IsInputBind : Bind → Type 0
IsInputBind bind.Free = ⊥
IsInputBind (bind.Input n) = Unit {0}
IsInputBind (bind.Output n) = ⊥

-- the drives of a moment: signals rise strictly, and each is bound to an input or as the clock
pub record AreDrives (device : Device) (drives : List (ℕ × Drive)) : Type 0 where
  pub rising : (k : ℕ) (a b : ℕ × Drive) → k + 1 < length drives
      → (slice_index_or drives k a).0 < (slice_index_or drives (k + 1) b).0
  pub each : (k : ℕ) (a : ℕ × Drive) → k < length drives
      → (is_clock device.clock (slice_index_or drives k a).0 ≡ true)
      ⊎ IsInputBind (bind_at device.binds (slice_index_or drives k a).0)

-- the die after one moment
pub record IsStep (device : Device) (old new : State) (drives : List (ℕ × Drive)) : Type 0 where
  pub kept : List Level
  pub clock : new.clock ≡ clock_after device.clock old.clock drives
  pub captures : Captures device.circuit.net.drivers (edge old.clock new.clock) old.levels old.held kept
  pub held : new.held ≡ put_all device.binds kept drives
  pub settled : Settled device.circuit.net.drivers device.fixed new.held new.levels
