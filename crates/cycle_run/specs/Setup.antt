-- What is the same in all cycles of a try, and when there is enough of them.
use Rattle.std.specs.Prelude.{◌≡◌, ℕ, nat_lt, Bool, false, length, IfSome}
use Rattle.packed_code.specs.Program.{Program}
use Rattle.bench_net.specs.Circuit.{IsWhole}
use Rattle.die_sim.specs.Die.{Device, device_of}
use Rattle.strobe_check.specs.History.{Held, Answers, total_of}
use Rattle.site_meaning.specs.Playing.{Stand}
use Rattle.cycle_run.specs.Cycle.{stand_of}
use Rattle.cycle_run.specs.Step.{FitCode}
use Rattle.cycle_run.specs.Lent.{HoldsMoments}
use Rattle.cycle_run.specs.declared.setup.Setup.{Setup}
use Rattle.cycle_run.specs.declared.setup.Until.{Until}
use Rattle.cycle_run.specs.declared.setup.Until.TheVariants as until

-- its program
abbrev pub code_in : Setup → Program
code_in setup = setup.code.now

-- its die
abbrev pub device_in : Setup → Device
device_in setup = device_of setup.image.now

-- its program, its die and the skews
abbrev pub stand_in : Setup → Stand
stand_in setup = stand_of (code_in setup) setup.skews.now (device_in setup)

-- a try can be played so: the die is whole, its signals and the skews are those of the program, and moments that are
-- lent are its own
pub record IsSetUp (setup : Setup) : Type 0 where
  pub whole : IsWhole setup.image.now.circuit
  pub signals : length setup.image.now.binds ≡ length (code_in setup).signals
  pub skews_fit : FitCode (code_in setup) setup.skews.now
  pub lent : IfSome setup.lent (λ lent. HoldsMoments (code_in setup) setup.skews.now lent.now)

-- whether there is enough: never before the end, or with the first fail that the checker has found
abbrev pub HasEnough : Until → Held → Bool → Type 0
HasEnough until.End held enough = enough ≡ false
HasEnough until.FirstFail held enough = (total : ℕ) × Answers total_of held total × (enough ≡ nat_lt 0 total)
