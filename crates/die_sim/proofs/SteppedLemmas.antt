-- A state is a die's first one, or its next one after a moment, exactly where it is the one that the functions name.
use Rattle.std.proofs.Common.{◌≡◌, ℕ, ◌<◌, List, [], ◌∷◌, length, map, refl, sym, ap, ◌∙◌, subst, arith, Option, length-set}
use Rattle.std.specs.Prelude.{◌↔◌}
use Rattle.std.specs.List.{range_with_len}
use Rattle.std.proofs.lemmas.List.FromFn.{length-map-range_with_len, get_or-map-range_with_len}
use Rattle.tester_types.specs.declared.level.Level.{Level}
use Rattle.tester_types.specs.declared.level.Level.TheVariants.{Zero}
use Rattle.tester_types.specs.declared.level.Drive.{Drive}
use Rattle.bench_net.specs.declared.gate.Driver.{Driver}
use Rattle.bench_net.specs.Wiring.{driver_at}
use Rattle.bench_net.specs.Circuit.{Circuit, IsWhole}
use Rattle.die_sim.specs.declared.image.Bind.{Bind}
use Rattle.die_sim.specs.declared.image.Bind.TheVariants as bind
use Rattle.die_sim.specs.declared.moment.Edge.{Edge}
use Rattle.bench_net.specs.Gates.{level_at}
use Rattle.die_sim.specs.Die.{Device, State, Settled, IsFresh, bind_at}
use Rattle.die_sim.specs.Moment.{edge, captured, Captures, drive_level, clock_after, put_at, put_all, IsStep}
use Rattle.die_sim.specs.Stepped.{settled_levels, first_state, captured_levels, held_after, stepped}
use Rattle.die_sim.proofs.SettledLemmas.{same_lists, one_settled_netlist}
use Rattle.die_sim.proofs.SettlingLemmas.{settles}

-- states are one whose parts are
same_state : (s t : State) → s.clock ≡ t.clock → s.held ≡ t.held → s.levels ≡ t.levels → s ≡ t
same_state s t a b c =
    let clock_is : Level → State = λ x. record { clock = x; held = s.held; levels = s.levels } in
    let held_is : List Level → State = λ x. record { clock = t.clock; held = x; levels = s.levels } in
    let levels_are : List Level → State = λ x. record { clock = t.clock; held = t.held; levels = x } in
    ap clock_is a ∙ ap held_is b ∙ ap levels_are c

-- what is settled is what all nets settle to
settled_is : (c : Circuit) → IsWhole c → (fixed : List (Option Level)) (held v : List Level)
    → Settled c.net.drivers fixed held v → v ≡ settled_levels c fixed held
settled_is c whole fixed held v s =
    one_settled_netlist c whole fixed held v (settled_levels c fixed held) s (settles c whole fixed held)

-- a fresh state is the first one
pub fresh_is_first : (d : Device) (s : State) → IsWhole d.circuit → IsFresh d s ↔ (s ≡ first_state d)
fresh_is_first d s whole = (
  λ h. same_state s (first_state d) h.clock h.held
      (settled_is d.circuit whole d.fixed s.held s.levels h.settled ∙ ap (settled_levels d.circuit d.fixed) h.held),
  λ e. subst (λ (t : State). IsFresh d t) (sym e)
      (record { clock = refl; held = refl; settled = settles d.circuit whole d.fixed (first_state d).held }),
)

-- what the flip-flops have captured is one list
captures_is : (drivers : List Driver) (e : Edge) (before held kept : List Level) → length held ≡ length drivers
    → Captures drivers e before held kept → kept ≡ captured_levels drivers e before held
unfolding captured_levels
captures_is drivers e before held kept size h =
    let at : ℕ → Level = λ n. captured (driver_at drivers n) e (level_at held n) before in
    same_lists kept (map at (range_with_len 0 (length held)))
    (h.count ∙ sym (length-map-range_with_len at 0 (length held)))
    (λ n l.
    let within : n < length held = omega (arith, l, h.count) in
    let inside : n < length drivers = omega (arith, within, size) in
    h.each n inside ∙ sym (get_or-map-range_with_len at 0 (length held) n n Zero within (omega arith)))

-- that list is what they capture
captured_captures : (drivers : List Driver) (e : Edge) (before held : List Level) → length held ≡ length drivers
    → Captures drivers e before held (captured_levels drivers e before held)
unfolding captured_levels
captured_captures drivers e before held size =
    let at : ℕ → Level = λ n. captured (driver_at drivers n) e (level_at held n) before in
    record {
      count = length-map-range_with_len at 0 (length held);
      each = λ n l. get_or-map-range_with_len at 0 (length held) n n Zero (omega (arith, l, size)) (omega arith);
    }

-- a step leads to the state that the function names, and that state is one step away
pub step_is_stepped : (d : Device) (old new : State) (drives : List (ℕ × Drive)) → IsWhole d.circuit
    → length old.held ≡ length d.circuit.net.drivers → IsStep d old new drives ↔ (new ≡ stepped d old drives)
step_is_stepped d old new drives whole size = (λ h. there h, λ e. subst (λ (t : State). IsStep d old t drives) (sym e) back)
  where
    drivers : List Driver
    drivers = d.circuit.net.drivers

    clock : Level
    clock = clock_after d.clock old.clock drives

    there : IsStep d old new drives → new ≡ stepped d old drives
    there h =
        let kept_is : h.kept ≡ captured_levels drivers (edge old.clock new.clock) old.levels old.held =
        captures_is drivers (edge old.clock new.clock) old.levels old.held h.kept size h.captures in
        let held_is : new.held ≡ held_after d old clock drives =
        h.held ∙ ap (λ (k : List Level). put_all d.binds k drives) kept_is ∙ ap (λ (l : Level). held_after d old l drives) h.clock in
        same_state new (stepped d old drives) h.clock held_is
        (settled_is d.circuit whole d.fixed new.held new.levels h.settled ∙ ap (settled_levels d.circuit d.fixed) held_is)

    back : IsStep d old (stepped d old drives) drives
    back = record {
      kept = captured_levels drivers (edge old.clock clock) old.levels old.held;
      clock = refl;
      captures = captured_captures drivers (edge old.clock clock) old.levels old.held size;
      held = refl;
      settled = settles d.circuit whole d.fixed (held_after d old clock drives);
    }

-- a drive keeps how many levels there are
length-put_at : (b : Bind) (drive : Drive) (held : List Level) → length (put_at b drive held) ≡ length held
length-put_at bind.Free drive held = refl
length-put_at (bind.Input n) drive held = length-set held n (drive_level drive)
length-put_at (bind.Output n) drive held = refl

-- so do drives
length-put_all : (binds : List Bind) (held : List Level) (drives : List (ℕ × Drive)) → length (put_all binds held drives) ≡ length held
length-put_all binds held [] = refl
length-put_all binds held (x ∷ drives) =
    length-put_all binds (put_at (bind_at binds x.0) x.1 held) drives ∙ length-put_at (bind_at binds x.0) x.1 held

-- and so does a step
pub length-step : (d : Device) (old new : State) (drives : List (ℕ × Drive)) → IsStep d old new drives → length new.held ≡ length old.held
length-step d old new drives h = ap (λ (l : List Level). length l) h.held ∙ length-put_all d.binds h.kept drives ∙ h.captures.count
