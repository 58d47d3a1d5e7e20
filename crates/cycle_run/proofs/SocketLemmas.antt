-- What is asked of a socket, and what it shows.
use Rattle.std.proofs.Common.{◌≡◌, ℕ, ◌+◌, ◌<◌, ◌≤◌, Bool, true, false, eqb, List, [], ◌∷◌, length, get_or, set, Option, Some, None, refl, sym, ap, ◌∙◌, subst, arith, inl, inr, zero-add}
use Rattle.std.proofs.lemmas.Bool.{cases_lt, both_ways, or_cases, eqb-true, and_parts}
use Rattle.std.proofs.lemmas.List.{get_or_past, get_or-set_same, get_or-set_other}
use Rattle.std.proofs.lemmas.List.FromFn.{get_or-map-range_with_len, length-map-range_with_len}
use Rattle.tester_types.specs.declared.wave.Look.{Look}
use Rattle.tester_types.specs.declared.level.Level.{Level}
use Rattle.tester_types.specs.declared.level.Level.TheVariants.{X}
use Rattle.tester_types.specs.declared.level.Drive.{Drive}
use Rattle.tester_types.specs.declared.cycle.Moment.{Moment}
use Rattle.bench_net.specs.declared.gate.Driver.{Driver}
use Rattle.bench_net.specs.declared.gate.Driver.TheVariants.{Input, Dff, Gate}
use Rattle.bench_net.specs.Wiring.{driver_at}
use Rattle.die_sim.specs.declared.image.Bind.{Bind}
use Rattle.die_sim.specs.declared.image.Bind.TheVariants as bind
use Rattle.bench_net.specs.Gates.{level_at}
use Rattle.die_sim.specs.Die.{Device, State, Settled, bind_at, is_clock, IsBoundTo, has_net}
use Rattle.die_sim.specs.Moment.{edge, captured, IsStep}
use Rattle.die_sim.specs.Socket.{Told, CanDrive, CanSense, Moves, Shows}
use Rattle.strobe_check.specs.Sensed.{is_sensed}
use Rattle.strobe_check.specs.Ahead.{Skips}
use Rattle.strobe_check.specs.Step.{is_watched}
use Rattle.strobe_check.specs.History.{Held, Answers, sensed, open_window}
use Rattle.strobe_check.proofs.SensedLemmas.{is_sensed-watched}
use Rattle.site_meaning.specs.Playing.{is_bound, bound_of}
use Rattle.die_sim.specs.Socket.{Calls}
use Rattle.cycle_run.specs.BatchLaws.{with-none}
use Rattle.cycle_run.specs.Tape.{call_at, with_calls}
use Rattle.cycle_run.specs.Step.{AreLevels, IsCheckedBy, IsSettled}

-- ---- no drives

stays : (driver : Driver) (level own : Level) (before : List Level) → own ≡ captured driver (edge level level) own before
stays Input level own before = refl
stays (Dff pin) Level.Zero own before = refl
stays (Dff pin) Level.One own before = refl
stays (Dff pin) Level.X own before = refl
stays (Dff pin) Level.Z own before = refl
stays (Gate kind pins) level own before = refl

-- a die whose nets are settled may make a step without drives and stay as it is
pub still : (device : Device) (state : State)
    → Settled device.circuit.net.drivers device.fixed state.held state.levels → IsStep device state state []
still device state settled = record {
  kept = state.held;
  clock = refl;
  captures = record {
    count = refl;
    each = λ n l. stays (driver_at device.circuit.net.drivers n) state.clock (level_at state.held n) state.levels;
  };
  held = refl;
  settled = settled;
}

empty : {X : Type 0} (xs : List X) → length xs ≡ 0 → xs ≡ []
empty [] e = refl
empty (x ∷ xs) e = absurd (omega (arith, e))

-- a slice that says it is empty is
pub is_empty : {X : Type 0} (xs : List X) (b : Bool) → b ≡ eqb (length xs) 0 → b ≡ true → xs ≡ []
is_empty xs b is so = empty xs (eqb-true (length xs) 0 (sym is ∙ so))

pub moves-none : (loaded : Option Device) (state : State) (drives : List (ℕ × Drive)) → drives ≡ []
    → CanDrive loaded drives → IsSettled loaded state → Moves loaded state state drives
moves-none None state drives none can settled = can
moves-none (Some device) state drives none can settled =
    subst (λ (l : List (ℕ × Drive)). IsStep device state state l) (sym none) (still device state settled)

-- ---- what is sensed is bound

net_bound : (b : Bind) → has_net b ≡ true → IsBoundTo b
net_bound bind.Free e = cc
net_bound (bind.Input n) e = tt
net_bound (bind.Output n) e = tt

sensed_is_bound : (device : Device) (signal : ℕ) → get_or (bound_of device) signal false ≡ true → is_bound device signal ≡ true
sensed_is_bound device signal e =
    elim (cases_lt signal (length device.binds)) [
      | inl l ↦ sym (get_or-map-range_with_len (is_bound device) 0 (length device.binds) signal signal false l (zero-add signal)) ∙ e
      | inr l ↦
          let long = length-map-range_with_len (is_bound device) 0 (length device.binds) in
          let past : length (bound_of device) ≤ signal = omega (arith, long) in
          absurd (let none = get_or_past (bound_of device) signal false past in cc (none, e))
    ]

bound_senses : (device : Device) (signal : ℕ) → is_bound device signal ≡ true → CanSense (Some device) signal
bound_senses device signal e =
    elim (or_cases (is_clock device.clock signal) (has_net (bind_at device.binds signal)) e) [
      | inl clock ↦ inl clock
      | inr net ↦ inr (net_bound (bind_at device.binds signal) net)
    ]

-- what a checker wants can be sensed
pub can_sense : (loaded : Option Device) (held : Held) (moment : Moment) (signal : ℕ) (wanted : Bool)
    → IsCheckedBy loaded held → Answers (sensed moment signal) held wanted → wanted ≡ true → CanSense loaded signal
can_sense None held moment signal wanted checked answers so = checked
can_sense (Some device) held moment signal wanted checked answers so =
    let history = checked.history in
    let is = sym (answers history checked.seen) ∙ so in
    let bound : get_or history.bound signal false ≡ true =
    (and_parts _ (is_watched (open_window signal history.entries) signal moment.looks)
    (sym (is_sensed-watched history.bound history.entries moment signal) ∙ is)).0 in
    bound_senses device signal (sensed_is_bound device signal (ap (λ (l : List Bool). get_or l signal false) (sym checked.bound) ∙ bound))

-- ---- the levels that are sensed

-- some moment with these looks
abbrev pub some_with : List (ℕ × Look) → Moment
some_with looks = record { at = 0; drives = []; looks = looks }

-- one more signal was sensed
pub levels-more : (first now : Told) (held : Held) (moment : Moment) (i : ℕ) (levels : List Level) (level : Level)
    → i < length levels → now.loaded ≡ first.loaded → now.state ≡ first.state → Shows now.loaded now.state i level
    → AreLevels first held moment i levels → AreLevels first held moment (i + 1) (set levels i level)
levels-more first now held moment i levels level within loaded state shows before history seen signal below is =
    elim (cases_lt signal i) [
      | inl l ↦
          let apart : signal ≡ i → ⊥ = (λ e. omega arith) in
          subst (λ (x : Level). Shows first.loaded first.state signal x) (sym (get_or-set_other levels i signal level X apart))
          (before history seen signal l is)
      | inr l ↦
          let same : i ≡ signal = omega arith in
          let here : get_or (set levels i level) i X ≡ level = get_or-set_same levels i level X within in
          let there : get_or (set levels i level) signal X
          ≡ level = subst (λ (k : ℕ). get_or (set levels i level) k X ≡ level) same here in
          let a = subst (λ (o : Option Device). Shows o now.state i level) loaded shows in
          let b = subst (λ (s : State). Shows first.loaded s i level) state a in
          let c = subst (λ (k : ℕ). Shows first.loaded first.state k level) same b in
          subst (λ (x : Level). Shows first.loaded first.state signal x) (sym there) c
    ]

-- signals that are not wanted are skipped
pub levels-skips : (first : Told) (held : Held) (moment : Moment) (from upto : ℕ) (levels : List Level)
    → Skips moment held from upto → AreLevels first held moment from levels → AreLevels first held moment upto levels
levels-skips first held moment from upto levels skips before history seen signal below is =
    elim (cases_lt signal from) [
      | inl l ↦ before history seen signal l is
      | inr l ↦ absurd (both_ways (is_sensed history.bound history.entries moment signal) (sym (skips signal l below history seen)) is)
    ]

-- ---- tapes

-- a call that has no drives isn't on it
pub tape-none : (tape now : Option Calls) (at : ℕ) (drives : List (ℕ × Drive)) → drives ≡ [] → now ≡ tape
    → now ≡ with_calls tape (call_at at drives)
tape-none tape now at drives none same =
    same ∙ sym (with-none tape) ∙ ap (λ (l : List (ℕ × Drive)). with_calls tape (call_at at l)) (sym none)
