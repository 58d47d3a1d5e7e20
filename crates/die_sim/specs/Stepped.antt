-- The first state of a loaded die, and its state after one moment, as functions of what it was.
use Rattle.std.specs.Prelude.{ℕ, Option, List, length, map, fold, replicate, slice_set}
use Rattle.std.specs.List.{range_with_len}
use Rattle.tester_types.specs.declared.level.Level.{Level}
use Rattle.tester_types.specs.declared.level.Level.TheVariants.{X}
use Rattle.tester_types.specs.declared.level.Drive.{Drive}
use Rattle.bench_net.specs.declared.gate.Driver.{Driver}
use Rattle.bench_net.specs.Wiring.{driver_at}
use Rattle.bench_net.specs.Circuit.{Circuit}
use Rattle.die_sim.specs.declared.moment.Edge.{Edge}
use Rattle.bench_net.specs.Gates.{level_at}
use Rattle.die_sim.specs.Die.{Device, State, own_level, wanted}
use Rattle.die_sim.specs.Moment.{edge, captured, clock_after, put_all}

-- each net with its own level: what it is driven to or keeps, unless a fault fixes it
abbrev pub own_levels : List Driver → List (Option Level) → List Level → List Level
own_levels drivers fixed held = map (own_level fixed held) (range_with_len 0 (length drivers))

-- the levels with the gate of one net evaluated
abbrev pub evaluated : List Driver → List (Option Level) → List Level → List Level → ℕ → List Level
evaluated drivers fixed held levels g = slice_set levels g (wanted drivers fixed held levels g)

-- the levels after the gates of these nets were evaluated one after another
unfoldable pub levels_through : List Driver → List (Option Level) → List Level → List ℕ → List Level
levels_through drivers fixed held gates = fold (evaluated drivers fixed held) (own_levels drivers fixed held) gates

-- the levels that all nets settle to: each gate is evaluated once, behind the gates that it reads
abbrev pub settled_levels : Circuit → List (Option Level) → List Level → List Level
settled_levels c fixed held = levels_through c.net.drivers fixed held c.order

-- a settled state, by the clock's level and what inputs are driven to and flip-flops keep
abbrev pub settled_state : Device → Level → List Level → State
settled_state d clock held = record { clock = clock; held = held; levels = settled_levels d.circuit d.fixed held }

-- the state of a die that was loaded: all is unknown that nothing fixes
abbrev pub first_state : Device → State
first_state d = settled_state d X (replicate (length d.circuit.net.drivers) X)

-- what inputs are driven to and flip-flops keep once the flip-flops have captured
unfoldable pub captured_levels : List Driver → Edge → List Level → List Level → List Level
captured_levels drivers e before held =
    map (λ n. captured (driver_at drivers n) e (level_at held n) before) (range_with_len 0 (length held))

-- the same after the drives of a moment at whose end the clock has this level
abbrev pub held_after : Device → State → Level → List (ℕ × Drive) → List Level
held_after d s clock drives =
    put_all d.binds (captured_levels d.circuit.net.drivers (edge s.clock clock) s.levels s.held) drives

-- the state of a die after one moment
abbrev pub stepped : Device → State → List (ℕ × Drive) → State
stepped d s drives =
    settled_state d (clock_after d.clock s.clock drives) (held_after d s (clock_after d.clock s.clock drives) drives)
