-- What stands beside the words of 64 dies, and how they fit together. No public clause cites it.
use Rattle.std.specs.Prelude.{◌≡◌, ℕ, [], length}
use Rattle.tester_types.specs.declared.level.Level.{Level}
use Rattle.bench_net.specs.Circuit.{Circuit, IsWhole}
use Rattle.die_sim.specs.declared.image.Binding.{Binding}
use Rattle.die_sim.specs.Die.{Image, bind_at, IsNetBind}
use Rattle.die_sim.specs.Readers.{AreReaderPlaces}
use Rattle.die_words.specs.declared.wiring.Wired.{Wired}
use Rattle.die_words.specs.declared.nets.NetWords.{NetWords}
use Rattle.die_words.specs.Fits.{SourcesFit, GatesWait}
use Rattle.die_words.specs.Flat.{AreFlat}
use Rattle.die_words.specs.Capture.{AreRegisters}
use Rattle.die_words.specs.Lanes.{Lanes, OnlyInputs}

-- a netlist with its binding, and no fault
abbrev pub image_at : Circuit → Binding → Image
image_at c b = record { circuit = c; clock = b.clock; binds = b.nets; faults = [] }

-- the dies of a netlist with its binding, whose clock has this level
abbrev pub lanes_at : Circuit → Binding → Level → NetWords → Lanes
lanes_at c b clock n = record {
  image = image_at c b;
  forces = n.forces.items;
  clock = clock;
  offs = n.offs.items;
  held = n.held.items;
  words = n.words.items;
}

-- gates, flip-flops and readers are those of the netlist
pub record IsWiring (c : Circuit) (w : Wired) : Type 0 where
  pub gates : AreFlat c w.gates.gates.items w.gates.pins.items
  pub registers : AreRegisters c.net.drivers w.registers.nets.items w.registers.sources.items (length c.net.drivers)
  pub readers : AreReaderPlaces c w.readers.starts.items w.readers.places.items

-- the netlist is wired so, and signals are bound to its nets
pub record IsBoard (c : Circuit) (b : Binding) (w : Wired) : Type 0 where
  pub whole : IsWhole c
  pub bound : (s : ℕ) → IsNetBind c.net.drivers (bind_at b.nets s)
  pub wiring : IsWiring c w

-- there is a word of each kind for each net, inputs alone are driven off, and each net fits but for gates that are
-- pending
pub record FitNets (c : Circuit) (n : NetWords) : Type 0 where
  pub forces : length n.forces.items ≡ length c.net.drivers
  pub offs : length n.offs.items ≡ length c.net.drivers
  pub held : length n.held.items ≡ length c.net.drivers
  pub words : length n.words.items ≡ length c.net.drivers
  pub inputs : OnlyInputs c.net.drivers n.offs.items
  pub sources : SourcesFit c n.forces.items n.held.items n.words.items
  pub gates : GatesWait c n.forces.items n.words.items n.pending
