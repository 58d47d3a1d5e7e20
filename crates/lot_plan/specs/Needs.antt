-- What the rows of a plan need for each signal: its role, and the name of its net.
use Rattle.std.specs.Prelude.{ℕ, Bool, true, false, Option, Some, List, map, slice_get}
use Rattle.std.specs.List.{find, position}
use Rattle.std.specs.Option.{option_map_or, option_and_then}
use Rattle.std.specs.Str.{bytes_eq}
use Rattle.packed_code.specs.declared.parts.CodeSignal.{CodeSignal}
use Rattle.tester_types.specs.declared.signal.Direction.{Direction}
use Rattle.tester_types.specs.declared.signal.Direction.TheVariants as direction
use Rattle.plan_rows.specs.declared.row.Row.{Row}
use Rattle.plan_rows.specs.declared.row.BindRow.{BindRow}
use Rattle.plan_rows.specs.Rows.{each_of, as_clock, as_bind}
use Rattle.lot_plan.specs.declared.pin.Role.{Role}
use Rattle.lot_plan.specs.declared.pin.Role.TheVariants as role

-- what a signal needs of each circuit: its own name, its role, and the name of its net, none where it is left free
pub record PinNeed : Type 0 where
  pub name : List ℕ
  pub role : Role
  pub net : Option (List ℕ)

-- the name of the clock, where the plan has one
abbrev pub clock_name : List Row → Option (List ℕ)
clock_name rows = slice_get (each_of as_clock rows) 0

-- whether the plan's clock has this name
abbrev pub is_clock_name : Option (List ℕ) → List ℕ → Bool
is_clock_name clock name = option_map_or (bytes_eq name) clock false

-- the bind row of the signal of this name
abbrev pub bind_row : List Row → List ℕ → Option BindRow
bind_row rows name = find (λ b. bytes_eq name b.signal) (each_of as_bind rows)

-- the name of a signal's net: what its bind row says, else the signal's own name
abbrev pub net_name : List Row → List ℕ → Option (List ℕ)
net_name rows name = option_map_or (λ b. b.net) (bind_row rows name) (Some name)

-- what a signal does with its net, by its direction; the clock is the clock whatever its direction
abbrev pub role_of : Bool → Direction → Role
role_of true d = role.Clock
role_of false direction.In = role.Input
role_of false direction.Out = role.Output
role_of false direction.InOut = role.Either
role_of false direction.Supply = role.Nothing
role_of false direction.Pseudo = role.Nothing

-- what a signal needs
abbrev pub need_of : List Row → CodeSignal → PinNeed
need_of rows s = record {
  name = s.name;
  role = role_of (is_clock_name (clock_name rows) s.name) s.direction;
  net = net_name rows s.name;
}

-- what the signals need, in declared order
abbrev pub needs_of : List Row → List CodeSignal → List PinNeed
needs_of rows signals = map (need_of rows) signals

-- whether a signal has this name
abbrev pub has_name : List ℕ → CodeSignal → Bool
has_name name s = bytes_eq name s.name

-- the number of the clock, none where the plan has no clock
abbrev pub clock_of : List Row → List CodeSignal → Option ℕ
clock_of rows signals = option_and_then (λ name. position (has_name name) signals) (clock_name rows)
