-- How signals are bound to the nets of a circuit: in declared order, no two of them to one input that they drive.
use Rattle.std.specs.Prelude.{◌≡◌, ℕ, ◌<◌, ◌==◌, ◌&&◌, ◌||◌, not, length, Bool, true, false, if◌then◌else◌, Option, Some, None, Result, Ok, Err, List, [], ◌∷◌, ◌++◌, slice_get, slice_index_or, unwrap_or}
use Rattle.std.specs.List.{list_any}
use Rattle.std.specs.Option.{option_map_or}
use Rattle.bench_net.specs.Circuit.{Circuit, number}
use Rattle.bench_net.specs.declared.gate.Driver.{Driver}
use Rattle.bench_net.specs.declared.gate.Driver.TheVariants as driver
use Rattle.die_sim.specs.declared.image.Bind.{Bind}
use Rattle.die_sim.specs.declared.image.Bind.TheVariants as bind
use Rattle.lot_plan.specs.declared.pin.Role.{Role}
use Rattle.lot_plan.specs.declared.pin.Role.TheVariants as role
use Rattle.lot_plan.specs.Needs.{PinNeed}

-- whether nothing in the circuit drives the net, and so a signal may
abbrev pub is_open : Driver → Bool
is_open driver.Input = true
is_open (driver.Dff d) = false
is_open (driver.Gate kind pins) = false

-- whether a circuit has an input of this number
abbrev pub is_input : Circuit → ℕ → Bool
is_input c n = option_map_or is_open (slice_get c.net.drivers n) false

-- whether a circuit has an output of this number
abbrev pub is_output : Circuit → ℕ → Bool
is_output c n = slice_index_or c.net.outputs n false

-- whether a signal that is bound so drives the net
abbrev pub drives : ℕ → Bind → Bool
drives n bind.Free = false
drives n (bind.Input m) = m == n
drives n (bind.Output m) = false

-- the input of this number, unless another signal drives it
abbrev pub as_input : Circuit → (ℕ → Bool) → ℕ → Option Bind
as_input c driven n = if is_input c n && not (driven n) then Some (bind.Input n) else None

-- the output of this number
abbrev pub as_output : Circuit → ℕ → Option Bind
as_output c n = if is_output c n then Some (bind.Output n) else None

-- how a signal is bound to the net of this number, if it fits. The clock drives it where it can
abbrev pub bind_as : Circuit → (ℕ → Bool) → Role → ℕ → Option Bind
bind_as c driven role.Nothing n = Some bind.Free
bind_as c driven role.Clock n = Some (unwrap_or (as_input c driven n) bind.Free)
bind_as c driven role.Input n = as_input c driven n
bind_as c driven role.Output n = as_output c n
bind_as c driven role.Either n = if is_input c n then as_input c driven n else as_output c n

-- how a signal is bound to the net that it needs, if it can be; free where it needs none
abbrev pub bind_to : Circuit → (ℕ → Bool) → Role → Option (List ℕ) → Option Bind
bind_to c driven role None = Some bind.Free
bind_to c driven role (Some name) = bind_as c driven role (number c.net.names name)

-- whether one of the signals before drives the net
abbrev pub is_driven : List Bind → ℕ → Bool
is_driven before n = list_any (drives n) before

-- the rest is bound behind this signal, or its name is the answer
abbrev pub bound_or : List ℕ → Option Bind → (Bind → Result (List Bind) (List ℕ)) → Result (List Bind) (List ℕ)
bound_or name None next = Err name
bound_or name (Some b) next = next b

-- the signals behind others are bound in order, or else the name of the first that can't be
abbrev pub binds_from : Circuit → List Bind → List PinNeed → Result (List Bind) (List ℕ)
binds_from c before [] = Ok before
binds_from c before (w ∷ needs) = bound_or w.name (bind_to c (is_driven before) w.role w.net)
    (λ b. binds_from c (before ++ b ∷ []) needs)

-- all signals
abbrev pub binds_of : Circuit → List PinNeed → Result (List Bind) (List ℕ)
binds_of c needs = binds_from c [] needs

-- the binds, and none where a signal has none
abbrev pub list_of : Result (List Bind) (List ℕ) → List Bind
list_of (Ok binds) = binds
list_of (Err name) = []

-- the first signal that has none
abbrev pub unbound_in : Result (List Bind) (List ℕ) → Option (List ℕ)
unbound_in (Ok binds) = None
unbound_in (Err name) = Some name

-- a net that a signal drives is among so many
abbrev pub IsMarkable : ℕ → Bind → Type 0
IsMarkable nets bind.Free = Unit {0}
IsMarkable nets (bind.Input n) = n < nets
IsMarkable nets (bind.Output n) = Unit {0}

-- the nets that are driven, with those that a signal drives that is bound so
pub record Marks (old new : List Bool) (b : Bind) : Type 0 where
  pub count : length new ≡ length old
  pub each : (n : ℕ) → slice_index_or new n false ≡ (slice_index_or old n false || drives n b)
