-- What settling asks of a die's wiring and keeps of its nets; no public clause cites it.
use Rattle.std.specs.Prelude.{◌≡◌, ℕ, ◌<◌, false, List, length}
use Rattle.std.specs.Arc.{arc_value}
use Rattle.tester_types.specs.declared.level.Level.{Level}
use Rattle.bench_net.specs.declared.gate.Driver.{Driver}
use Rattle.bench_net.specs.Circuit.{Circuit, IsWhole}
use Rattle.bench_net.specs.Wiring.{gate_at}
use Rattle.die_sim.specs.declared.wiring.Wiring.{Wiring}
use Rattle.die_sim.specs.declared.wiring.Nets.{Nets}
use Rattle.die_sim.specs.Cells.{AreCells}
use Rattle.die_sim.specs.Die.{own_level}
use Rattle.bench_net.specs.Gates.{level_at}
use Rattle.die_sim.specs.Pending.{AreSeats}
use Rattle.die_sim.specs.Readers.{AreReaderPlaces}
use Rattle.die_sim.specs.Waiting.{AreWakers, AreAtRest}
use Rattle.die_sim.specs.Walk.{Puts, Waits, Refreshes, Visits}

-- the netlist that is wired
abbrev pub circuit_of : Wiring → Circuit
circuit_of w = arc_value w.net

-- what drives each of its nets
abbrev pub drivers_of : Wiring → List Driver
drivers_of w = (arc_value w.net).net.drivers

-- the gates, the readers and the stuck levels are those of the netlist
pub record IsWiring (w : Wiring) : Type 0 where
  pub whole : IsWhole (circuit_of w)
  pub fixed_count : length w.fixed.items ≡ length (circuit_of w).net.names
  pub gates : AreCells (circuit_of w) w.fixed.items w.cells.cells.items w.cells.pins.items
  pub reader_places : AreReaderPlaces (circuit_of w) w.readers.starts.items w.readers.places.items

-- each net has a level, each gate its place, and each flip-flop is reached from its D net
pub record AreSeated (w : Wiring) (s : Nets) : Type 0 where
  pub levels_count : length s.levels.items ≡ length (circuit_of w).net.names
  pub seats : AreSeats (circuit_of w).order s.pending
  pub wakers : AreWakers (drivers_of w) s.waiting

-- the nets are seated, and each flip-flop that doesn't wait keeps what its D net has
pub record AreNets (w : Wiring) (held : List Level) (s : Nets) : Type 0 where
  pub held_count : length held ≡ length (circuit_of w).net.names
  pub seated : AreSeated w s
  pub rest : AreAtRest (drivers_of w) held s.levels.items s.waiting

-- each flip-flop that kept what its D net has still does, or waits
abbrev pub StaysAtRest : Wiring → Nets → Nets → Type 0
StaysAtRest w old new = (held : List Level) → AreAtRest (drivers_of w) held old.levels.items old.waiting
    → AreAtRest (drivers_of w) held new.levels.items new.waiting

-- only gates are pending, and each gate that isn't fits
abbrev pub GatesWait : Wiring → List Level → Nets → Type 0
GatesWait w held s = Waits (drivers_of w) w.fixed.items held s.levels.items s.pending

-- inputs and flip-flops have their levels
abbrev pub SourcesFit : Wiring → List Level → Nets → Type 0
SourcesFit w held s = (n : ℕ) → n < length (drivers_of w) → gate_at (drivers_of w) n ≡ false
    → level_at s.levels.items n ≡ own_level w.fixed.items held n

-- a net has got a level
abbrev pub PutsNet : Wiring → ℕ → Level → Nets → Nets → Type 0
PutsNet w n x old new = Puts (drivers_of w) n x old.levels.items new.levels.items old.pending new.pending

-- inputs and flip-flops have got their levels, some of them
abbrev pub RefreshesNets : Wiring → List Level → Nets → Nets → Type 0
RefreshesNets w held old new =
    Refreshes (drivers_of w) w.fixed.items held old.levels.items new.levels.items old.pending new.pending

-- a pending gate was evaluated
abbrev pub VisitsGate : Wiring → List Level → ℕ → Nets → Nets → Type 0
VisitsGate w held g old new =
    Visits (drivers_of w) w.fixed.items held g old.levels.items new.levels.items old.pending new.pending
