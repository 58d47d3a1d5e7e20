-- A try at a station: what it runs on, and what serves its cycles there.
use Rattle.std.specs.Prelude.{◌≡◌, ◌≤◌, length}
use Rattle.packed_code.specs.Program.{Program}
use Rattle.packed_code.specs.Conditions.{IsProgram}
use Rattle.bench_net.specs.Circuit.{IsWhole}
use Rattle.die_sim.specs.Die.{Device, device_of}
use Rattle.die_sim.specs.Socket.{Told}
use Rattle.site_meaning.specs.Playing.{Stand}
use Rattle.cycle_run.specs.Cycle.{stand_of}
use Rattle.cycle_run.specs.Step.{FitCode, HoldsSchedules}
use Rattle.site_run.specs.declared.station.Ground.{Ground}
use Rattle.site_run.specs.declared.station.Station.{Station}

-- ---- what a try runs on

-- its program
abbrev pub code_in : Ground → Program
code_in ground = ground.mem.now.code

-- its die
abbrev pub device_in : Ground → Device
device_in ground = device_of ground.image.now

-- its program, its die and the skews
abbrev pub stand_in : Ground → Stand
stand_in ground = stand_of (code_in ground) ground.skews.now (device_in ground)

-- the program is one, the die is whole, and its signals and the skews are those of the program
pub record IsGround (ground : Ground) : Type 0 where
  pub program : IsProgram (code_in ground)
  pub whole : IsWhole ground.image.now.circuit
  pub signals : length ground.image.now.binds ≡ length (code_in ground).signals
  pub skews : FitCode (code_in ground) ground.skews.now

-- ---- what serves its cycles

-- a station serves it: the pass is for its memory, and the schedules that are held are those of its program
pub record Serves {R K : Type 0} (ground : Ground) (station : Station R K) : Type 0 where
  pub pass : station.pass.now ≡ ground.mem.now
  pub held : HoldsSchedules (code_in ground) ground.skews.now station.schedules.now

-- it is the same station behind cycles: the die stays loaded, and no fault is taken off the socket's count
pub record Keeps {R K : Type 0} (told : K → Told) (old new : Station R K) : Type 0 where
  pub pass : new.pass.ghost_name ≡ old.pass.ghost_name
  pub schedules : new.schedules.ghost_name ≡ old.schedules.ghost_name
  pub socket : new.socket.ghost_name ≡ old.socket.ghost_name
  pub loaded : (told new.socket.now).loaded ≡ (told old.socket.now).loaded
  pub count : (told old.socket.now).count ≤ (told new.socket.now).count
