-- Why a plan isn't bound: the first row that is refused, else the first signal without a net, circuit by circuit.
use Rattle.std.specs.Prelude.{◌≡◌, ℕ, ◌+◌, ◌⊎◌, nat_lt, Bool, if◌then◌else◌, Option, Some, None, Result, Ok, Err, List, [], ◌∷◌, length, map, All}
use Rattle.std.specs.List.{list_any}
use Rattle.std.specs.Option.{option_map, option_or}
use Rattle.packed_code.specs.declared.parts.CodeSignal.{CodeSignal}
use Rattle.bench_net.specs.Circuit.{Circuit, IsWhole, number}
use Rattle.die_sim.specs.declared.image.Binding.{Binding}
use Rattle.plan_rows.specs.declared.fault.PlanFault.{PlanFault}
use Rattle.plan_rows.specs.declared.fault.PlanFault.TheVariants.{NoMemory, UnknownName, OutOfRange, Unbound}
use Rattle.plan_rows.specs.declared.row.Row.{Row}
use Rattle.plan_rows.specs.declared.row.Row.TheVariants as row
use Rattle.plan_rows.specs.declared.row.SkewRow.{SkewRow}
use Rattle.plan_rows.specs.declared.row.Ending.{Ending}
use Rattle.plan_rows.specs.declared.row.Ending.TheVariants as ending
use Rattle.plan_rows.specs.Rows.{AreKept, files_of}
use Rattle.lot_plan.specs.Needs.{PinNeed, has_name, needs_of}
use Rattle.lot_plan.specs.Binds.{binds_of, list_of, unbound_in}
use Rattle.lot_plan.specs.Bound.{Bound, signals_of, circuit_of}
use Rattle.lot_plan.specs.Skews.{skew_refusal}

-- no fault where the test holds, else this
abbrev pub unless : Bool → PlanFault → Option PlanFault
unless test fault = if test then None else Some fault

-- whether a signal has this name
abbrev pub is_signal : List CodeSignal → List ℕ → Bool
is_signal signals name = list_any (has_name name) signals

-- whether a net has this name
abbrev pub is_net : Circuit → List ℕ → Bool
is_net c name = nat_lt (number c.net.names name) (length c.net.names)

-- the fault of a bin row with this ending: its executive isn't there
abbrev pub ending_refusal : ℕ → ℕ → Ending → Option PlanFault
ending_refusal execs number ending.Pass = None
ending_refusal execs number (ending.Fail exec) = unless (nat_lt exec execs) (OutOfRange number)
ending_refusal execs number ending.Stopped = None
ending_refusal execs number ending.Contact = None

-- the fault of the row of this number: a clock or a bind row of no signal, a fault of no net of its die, a bin of no
-- executive, a skew of no signal or one that moves an event out of its cycle
abbrev pub row_refusal : (List ℕ → Bool) → (ℕ → SkewRow → Option PlanFault) → ℕ → (ℕ → ℕ → Circuit) → ℕ → Row
    → Option PlanFault
row_refusal known skewed execs circuit number (row.Lot l) = None
row_refusal known skewed execs circuit number (row.Clock name) = unless (known name) (UnknownName number)
row_refusal known skewed execs circuit number (row.Bind r) = unless (known r.signal) (UnknownName number)
row_refusal known skewed execs circuit number (row.Die d) = None
row_refusal known skewed execs circuit number (row.Fault f) =
    unless (is_net (circuit f.site f.die) f.net) (UnknownName number)
row_refusal known skewed execs circuit number (row.Stop s) = None
row_refusal known skewed execs circuit number (row.Bin r) = ending_refusal execs number r.ending
row_refusal known skewed execs circuit number (row.Skew r) = skewed number r

-- the first fault of rows that are numbered from here on
abbrev pub rows_refusal : (List ℕ → Bool) → (ℕ → SkewRow → Option PlanFault) → ℕ → (ℕ → ℕ → Circuit) → ℕ → List Row
    → Option PlanFault
rows_refusal known skewed execs circuit number [] = None
rows_refusal known skewed execs circuit number (r ∷ rows) =
    option_or (row_refusal known skewed execs circuit number r)
    (rows_refusal known skewed execs circuit (number + 1) rows)

-- the first signal without a net, circuit by circuit
abbrev pub first_unbound : List PinNeed → List Circuit → Option (List ℕ)
first_unbound needs [] = None
first_unbound needs (c ∷ circuits) = option_or (unbound_in (binds_of c needs)) (first_unbound needs circuits)

-- the binding of a circuit
abbrev pub binding_by : Option ℕ → List PinNeed → Circuit → Binding
binding_by clock needs c = record { clock = clock; nets = list_of (binds_of c needs) }

-- the circuits are whole, and each signal is bound to each of them
pub record AreBindings (circuits : List Circuit) (needs : List PinNeed) (clock : Option ℕ)
    (bindings : List Binding) : Type 0 where
  pub whole : All IsWhole circuits
  pub bound : first_unbound needs circuits ≡ None
  pub each : bindings ≡ map (binding_by clock needs) circuits

-- the fault of the first row that is refused, with the rows numbered from 1
abbrev pub refused_row : Bound → Option PlanFault
refused_row b =
    rows_refusal (is_signal (signals_of b)) (skew_refusal (signals_of b) b.program.tables) (length b.program.execs)
    (circuit_of b) 1 b.rows

-- why a plan isn't bound
abbrev pub refusal : Bound → Option PlanFault
refusal b = option_or (refused_row b) (option_map Unbound (first_unbound (needs_of b.rows (signals_of b)) b.circuits))

-- what a bound plan keeps
pub record IsBound (b : Bound) : Type 0 where
  pub kept : AreKept b.rows
  pub files : length b.circuits ≡ length (files_of b.rows)
  pub whole : All IsWhole b.circuits
  pub accepted : refusal b ≡ None

-- what binding answers: the bound plan where nothing refuses it, else the first refusal; want of memory alone is free
abbrev pub IsAnswer : Bound → Result Bound PlanFault → Type 0
IsAnswer b (Ok found) = (found ≡ b) × (refusal b ≡ None)
IsAnswer b (Err fault) = (fault ≡ NoMemory) ⊎ (refusal b ≡ Some fault)
