-- Known facts, computed from the definitions: how small plans are bound, and what their tries load.
use Rattle.std.proofs.Common.{◌≡◌, ℕ, ℤ, pos, negsuc, true, false, List, [], ◌∷◌, Some, None, Ok, Err, refl}
use Rattle.std.specs.Prelude.{codes}
use Rattle.bench_net.specs.Circuit.{Circuit}
use Rattle.bench_net.specs.declared.gate.Driver.TheVariants as driver
use Rattle.bench_net.specs.declared.gate.GateKind.TheVariants as gate
use Rattle.die_sim.specs.declared.image.Bind.TheVariants as bind
use Rattle.tester_types.specs.declared.wave.Push.TheVariants as push
use Rattle.tester_types.specs.declared.wave.Look.TheVariants as look
use Rattle.tester_types.specs.declared.wave.Act.TheVariants as act
use Rattle.packed_code.specs.Program.{Program}
use Rattle.packed_code.specs.declared.parts.CodeSignal.{CodeSignal}
use Rattle.tester_types.specs.declared.signal.Direction.TheVariants as direction
use Rattle.plan_rows.specs.declared.fault.PlanFault.TheVariants as refused
use Rattle.plan_rows.specs.declared.row.Row.{Row}
use Rattle.plan_rows.specs.declared.row.Row.TheVariants as row
use Rattle.plan_rows.specs.declared.row.Ending.TheVariants as ending
use Rattle.tester_types.specs.declared.record.Verdict.TheVariants as verdict
use Rattle.tester_types.specs.declared.record.By.TheVariants as by
use Rattle.lot_plan.specs.Needs.{needs_of, clock_of}
use Rattle.lot_plan.specs.Binds.{binds_of}
use Rattle.lot_plan.specs.Bound.{Bound, image_of, stop_of}
use Rattle.lot_plan.specs.Readings.{first_of, bin_of}
use Rattle.lot_plan.specs.Skews.{site_skews}
use Rattle.lot_plan.specs.Refusal.{refusal}
use Rattle.lot_plan.specs.Sample.{lot_alone, one_die}

-- an input A, an input B that is an output too, and an output Z
abbrev nets : Circuit
nets = record {
  net = record {
    names = (codes "A") ∷ (codes "B") ∷ (codes "Z") ∷ [];
    drivers = driver.Input ∷ driver.Input ∷ driver.Gate gate.Not (0 ∷ []) ∷ [];
    outputs = false ∷ true ∷ true ∷ [];
  };
  order = 2 ∷ [];
  readers = (2 ∷ []) ∷ [] ∷ [] ∷ [];
}

-- A in, Z out
abbrev signals : List CodeSignal
signals = record { name = codes "A"; direction = direction.In } ∷ record { name = codes "Z"; direction = direction.Out } ∷ []

-- two signals of one input, A first
abbrev twice : List CodeSignal
twice = record { name = codes "A"; direction = direction.In } ∷ record { name = codes "K"; direction = direction.In } ∷ []

-- K is bound to A
abbrev moved : List Row
moved = row.Bind (record { signal = codes "K"; net = Some (codes "A") }) ∷ []

-- and K is the clock
abbrev clocked : List Row
clocked = row.Clock (codes "K") ∷ moved

-- a signal has the net of its name
named : binds_of nets (needs_of [] signals) ≡ Ok (bind.Input 0 ∷ bind.Output 2 ∷ [])
named = refl

-- an output that is no net is unbound
unbound : binds_of nets (needs_of [] (record { name = codes "Y"; direction = direction.Out } ∷ [])) ≡ Err (codes "Y")
unbound = refl

-- an input is driven once
once : binds_of nets (needs_of moved twice) ≡ Err (codes "K")
once = refl

-- but a clock behind it is free
clock_free : binds_of nets (needs_of clocked twice) ≡ Ok (bind.Input 0 ∷ bind.Free ∷ [])
clock_free = refl

-- the clock is the second signal
clock_second : clock_of clocked twice ≡ Some 1
clock_second = refl

-- a program of these signals and one executive; A has an event at 3 fs of 10, Z one at 0
abbrev program : Program
program = record {
  signals = signals;
  tables = record {
    name = codes "t";
    period = 10;
    waves = record { signal = 0; character = 49; events = record { time = 3; act = act.Push push.Up } ∷ [] }
        ∷ record { signal = 1; character = 49; events = record { time = 0; act = act.Look look.High } ∷ [] } ∷ [];
  } ∷ [];
  rows = [];
  execs = record { name = []; chains = []; instrs = [] } ∷ [];
}

-- a lot of one die, whose signal A is moved at its site
abbrev skewed : List ℕ → ℤ → Bound
skewed signal skew = record {
  rows = row.Lot (record { batch = 10; tries = 2; keep = 4 }) ∷ row.Die (record { site = 0; name = codes "d"; file = codes "f" })
      ∷ row.Skew (record { site = 0; signal = signal; skew = skew }) ∷ [];
  program = program;
  circuits = nets ∷ [];
}

-- as far as the ends of the cycle, and one femtosecond further
first_instant : refusal (skewed (codes "A") (negsuc 2)) ≡ None
first_instant = refl

last_instant : refusal (skewed (codes "A") (pos 6)) ≡ None
last_instant = refl

before_cycle : refusal (skewed (codes "A") (negsuc 3)) ≡ Some (refused.SkewOutside 3)
before_cycle = refl

behind_cycle : refusal (skewed (codes "A") (pos 7)) ≡ Some (refused.SkewOutside 3)
behind_cycle = refl

no_such_signal : refusal (skewed (codes "B") (pos 0)) ≡ Some (refused.UnknownName 3)
no_such_signal = refl

-- the skews of a site, 0 where no row gives one
its_skews : site_skews (skewed (codes "Z") (pos 9)) 0 ≡ pos 0 ∷ pos 9 ∷ []
its_skews = refl

-- the plan of one die
abbrev plan : Bound
plan = record { rows = one_die (codes "A") (ending.Fail 0); program = program; circuits = nets ∷ [] }

accepted : refusal plan ≡ None
accepted = refl

-- a fault of no net is refused at its row, a bin of no executive at its own
unknown : refusal (record { rows = one_die (codes "Q") ending.Pass; program = program; circuits = nets ∷ [] })
    ≡ Some (refused.UnknownName 3)
unknown = refl

no_exec : refusal (record { rows = one_die (codes "A") (ending.Fail 1); program = program; circuits = nets ∷ [] })
    ≡ Some (refused.OutOfRange 5)
no_exec = refl

-- the fault is active in the first try alone
first_try : image_of plan 0 0 1
    ≡ record {
      circuit = nets;
      clock = None;
      binds = bind.Input 0 ∷ bind.Output 2 ∷ [];
      faults = record { net = 0; value = true } ∷ [];
    }
first_try = refl

second_try : image_of plan 0 0 2 ≡ record {
  circuit = nets;
  clock = None;
  binds = bind.Input 0 ∷ bind.Output 2 ∷ [];
  faults = [];
}
second_try = refl

-- the second try is stopped before batch 7
stopped : stop_of plan.rows 0 0 2 ≡ Some 7
stopped = refl

going_on : stop_of plan.rows 0 0 1 ≡ None
going_on = refl

-- bins: as the plan says, else the usual ones
given_bin : bin_of plan.rows (verdict.Fail 0) ≡ 9
given_bin = refl

usual_bins : (bin_of plan.rows verdict.Pass ≡ 1) × (bin_of plan.rows (verdict.Fail 3) ≡ 2)
    × (bin_of plan.rows (verdict.Stopped 7 by.Plan) ≡ 3) × (bin_of plan.rows (verdict.Contact 5) ≡ 4)
usual_bins = (refl, refl, refl, refl)

first_die : first_of plan.rows ≡ Some (0, 0)
first_die = refl

no_die_first : first_of lot_alone ≡ None
no_die_first = refl
