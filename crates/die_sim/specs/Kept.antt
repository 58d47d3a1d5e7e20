-- What a die keeps inside; no public clause cites it.
use Rattle.std.specs.Prelude.{◌≡◌, ℕ, ◌≤◌, false, List, length}
use Rattle.std.specs.Arc.{arc_value}
use Rattle.tester_types.specs.declared.level.Level.{Level}
use Rattle.die_sim.specs.declared.wiring.Wiring.{Wiring}
use Rattle.die_sim.specs.declared.wiring.Nets.{Nets}
use Rattle.die_sim.specs.Die.{Device, Settled, IsDevice}
use Rattle.die_sim.specs.Pending.{is_pending}
use Rattle.die_sim.specs.Settling.{drivers_of, IsWiring, AreNets}

-- the device of a wiring
abbrev pub device_in : Wiring → Device
device_in w = record {
  circuit = arc_value w.net;
  clock = (arc_value w.bind).clock;
  binds = (arc_value w.bind).nets;
  fixed = w.fixed.items;
}

-- what a die keeps inside
pub record IsKept (w : Wiring) (held : List Level) (s : Nets) (list : List ℕ) : Type 0 where
  pub device : IsDevice (device_in w)
  pub wiring : IsWiring w
  pub nets : AreNets w held s
  pub settled : Settled (drivers_of w) w.fixed.items held s.levels.items
  pub clear : (n : ℕ) → is_pending s.pending n ≡ false
  pub room : length (drivers_of w) ≤ length list
