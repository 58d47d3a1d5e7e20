-- A die: a circuit, how signals are bound to its nets, the nets that faults fix, and the levels that all nets settle
-- to.
use Rattle.std.specs.Prelude.{◌≡◌, ◌==◌, ℕ, ◌<◌, ◌≤◌, Bool, true, false, Option, Some, None, List, length, fold, replicate, slice_index_or, slice_set, unwrap_or}
use Rattle.tester_types.specs.declared.level.Level.{Level}
use Rattle.tester_types.specs.declared.level.Level.TheVariants.{Zero, One, X}
use Rattle.bench_net.specs.declared.gate.Driver.{Driver}
use Rattle.bench_net.specs.declared.gate.Driver.TheVariants.{Input, Dff, Gate}
use Rattle.bench_net.specs.Wiring.{driver_at}
use Rattle.bench_net.specs.Circuit.{Circuit}
use Rattle.die_sim.specs.declared.image.Bind.{Bind}
use Rattle.die_sim.specs.declared.image.Bind.TheVariants as bind
use Rattle.die_sim.specs.declared.image.StuckAt.{StuckAt}
use Rattle.bench_net.specs.Gates.{level_at, gate_of}

-- what is loaded into a socket: a circuit, its binding, with the number of the clock's signal if there is one, and
-- its faults
pub record Image : Type 0 where
  pub circuit : Circuit
  pub clock : Option ℕ
  pub binds : List Bind
  pub faults : List StuckAt

-- what doesn't change of a die: as an image, with each net's level where a fault fixes it
pub record Device : Type 0 where
  pub circuit : Circuit
  pub clock : Option ℕ
  pub binds : List Bind
  pub fixed : List (Option Level)

-- what changes of a die: the clock's level, the levels that its inputs are driven to and its flip-flops keep, and the
-- levels of all nets
pub record State : Type 0 where
  pub clock : Level
  pub held : List Level
  pub levels : List Level

-- a die as it is
pub record Die : Type 0 where
  pub device : Device
  pub state : State

-- the net that a fault fixes, and the level at which it is stuck
abbrev pub stuck : Bool → Level
stuck true = One
stuck false = Zero

-- one more fault
abbrev pub with_fault : List (Option Level) → StuckAt → List (Option Level)
with_fault fixed fault = slice_set fixed fault.net (Some (stuck fault.value))

-- for each net the level at which a fault fixes it, none where no fault is of this net
abbrev pub fixed_of : ℕ → List StuckAt → List (Option Level)
fixed_of nets faults = fold with_fault (replicate nets None) faults

-- the die that an image gives
abbrev pub device_of : Image → Device
device_of i =
    record {
      circuit = i.circuit;
      clock = i.clock;
      binds = i.binds;
      fixed = fixed_of
          (length i.circuit.net.names) i.faults;
    }

-- a die has the netlist and the binding of an image, whatever its faults are
pub record IsOfNet (d : Device) (i : Image) : Type 0 where
  pub circuit : d.circuit ≡ i.circuit
  pub clock : d.clock ≡ i.clock
  pub binds : d.binds ≡ i.binds

-- what a net's own driver gives it: an input or a flip-flop its own level, a gate its function of the nets that it
-- reads
abbrev pub driven : Driver → Level → List Level → Level
driven Input own v = own
driven (Dff d) own v = own
driven (Gate kind pins) own v = gate_of kind v pins

-- the level that an input or a flip-flop must have
abbrev pub own_level : List (Option Level) → List Level → ℕ → Level
own_level fixed held n = unwrap_or (slice_index_or fixed n None) (level_at held n)

-- the level that a net must have: that of its fault, else what its driver gives
abbrev pub wanted : List Driver → List (Option Level) → List Level → List Level → ℕ → Level
wanted drivers fixed held v n =
    unwrap_or (slice_index_or fixed n None) (driven (driver_at drivers n) (level_at held n) v)

-- these levels fit all nets at once
pub record Settled (drivers : List Driver) (fixed : List (Option Level)) (held v : List Level) : Type 0 where
  pub one_each : length v ≡ length drivers
  pub fits : (n : ℕ) → n < length drivers → level_at v n ≡ wanted drivers fixed held v n

-- exactly one list of levels fits all nets at once: there is one, and each that fits is this one
pub record HasOneSettling (drivers : List Driver) (fixed : List (Option Level)) (held : List Level) : Type 0 where
  pub levels : List Level
  pub fits : Settled drivers fixed held levels
  pub only : (v : List Level) → Settled drivers fixed held v → v ≡ levels

-- how a signal is bound; past the last signal it is free
abbrev pub bind_at : List Bind → ℕ → Bind
bind_at binds signal = slice_index_or binds signal bind.Free

-- the signal is the clock
abbrev pub is_clock : Option ℕ → ℕ → Bool
is_clock None signal = false
is_clock (Some c) signal = c == signal

-- whether a signal is bound to an input
abbrev pub is_input : Bind → Bool
is_input bind.Free = false
is_input (bind.Input n) = true
is_input (bind.Output n) = false

-- whether a signal is bound to a net
abbrev pub has_net : Bind → Bool
has_net bind.Free = false
has_net (bind.Input n) = true
has_net (bind.Output n) = true

-- the signal is bound so to a net of this circuit: an input where it drives it
abbrev pub IsNetBind : List Driver → Bind → Type 0
IsNetBind drivers bind.Free = Unit {0}
IsNetBind drivers (bind.Input n) = (n < length drivers) × (driver_at drivers n ≡ Input)
IsNetBind drivers (bind.Output n) = n < length drivers

-- what an image keeps: its nets are nets of its circuit, a signal drives inputs alone, no two signals drive one input,
-- and no two faults have one net
pub record IsSound (i : Image) : Type 0 where
  pub bound : (s : ℕ) → s < length i.binds → IsNetBind i.circuit.net.drivers (bind_at i.binds s)
  pub one_driver : (s t n : ℕ) → s < length i.binds → t < length i.binds → bind_at i.binds s ≡ bind.Input n
      → bind_at i.binds t ≡ bind.Input n → s ≡ t
  pub faults : (k : ℕ) (d : StuckAt) → k < length i.faults
      → (slice_index_or i.faults k d).net < length i.circuit.net.drivers
  pub one_fault : (k l : ℕ) (d e : StuckAt) → k < length i.faults → l < length i.faults
      → (slice_index_or i.faults k d).net ≡ (slice_index_or i.faults l e).net → k ≡ l

-- there is one fault at most, of one of so many nets; so no two faults have one net
pub record IsOneFault (nets : ℕ) (faults : List StuckAt) : Type 0 where
  pub few : length faults ≤ 1
  pub within : (d : StuckAt) → 0 < length faults → (slice_index_or faults 0 d).net < nets

-- what a die keeps: its nets are nets of its circuit
pub record IsDevice (d : Device) : Type 0 where
  pub bound : (s : ℕ) → s < length d.binds → IsNetBind d.circuit.net.drivers (bind_at d.binds s)
  pub fixed : length d.fixed ≡ length d.circuit.net.drivers

-- the signal is bound to a net
abbrev pub IsBoundTo : Bind → Type 0
IsBoundTo bind.Free = ⊥
IsBoundTo (bind.Input n) = Unit {0}
IsBoundTo (bind.Output n) = Unit {0}

-- what the signal shows: its net's level, or the clock's own
abbrev pub shown : Bind → State → Level
shown bind.Free s = s.clock
shown (bind.Input n) s = level_at s.levels n
shown (bind.Output n) s = level_at s.levels n

-- the level of a signal
abbrev pub level_of : Device → State → ℕ → Level
level_of d s signal = shown (bind_at d.binds signal) s

-- a die as it is loaded: clock, inputs and flip-flops are unknown, and all nets are settled
pub record IsFresh (d : Device) (s : State) : Type 0 where
  pub clock : s.clock ≡ X
  pub held : s.held ≡ replicate (length d.circuit.net.drivers) X
  pub settled : Settled d.circuit.net.drivers d.fixed s.held s.levels
