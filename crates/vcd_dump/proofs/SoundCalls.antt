-- The tape of a first try is sound with the vars of its dump: its calls, moment by moment and cycle by cycle.
use Rattle.std.proofs.Common.{◌≡◌, ℕ, ℤ, ◌+◌, ◌*◌, ◌^◌, ◌<◌, ◌≤◌, true, List, [], ◌∷◌, ◌++◌, length, map, Option, refl, sym, ap, subst, arith, append-nil}
use Rattle.std.specs.List.{AllByRecursion}
use Rattle.std.specs.Option.{option_map_or}
use Rattle.std.proofs.lemmas.Option.{get_or_from_slice_get}
use Rattle.std.proofs.lemmas.List.Elements.{recursion_from_All}
use Rattle.text_bytes.proofs.ListLemmas.{all_append, slice_get-there, all_from}
use Rattle.tester_types.specs.declared.wave.Push.{Push}
use Rattle.tester_types.specs.declared.wave.Table.{Table}
use Rattle.tester_types.specs.declared.level.Drive.{Drive}
use Rattle.tester_types.specs.declared.cycle.Cycle.{Cycle}
use Rattle.tester_types.specs.declared.cycle.Moment.{Moment}
use Rattle.packed_code.specs.Program.{Program}
use Rattle.packed_code.specs.Conditions.{IsProgram}
use Rattle.packed_code.specs.Cycles.{period_of}
use Rattle.packed_code.specs.Walk.{IsOf}
use Rattle.packed_code.proofs.WalkLemmas.{period_fits}
use Rattle.edge_gen.specs.Moments as edge
use Rattle.die_sim.specs.Die.{Device}
use Rattle.die_sim.specs.Socket.{Calls}
use Rattle.site_meaning.specs.Playing.{Stand, Going, Along, PlayedMoment, FitStand, along_of, whose_next, driven, is_driven, after_moment, moments_in, played_cycle, after_cycle}
use Rattle.site_meaning.specs.Trials.{played}
use Rattle.site_meaning.specs.Rising.{instants_of}
use Rattle.site_meaning.proofs.InstantLemmas.{cycle_from, cycle_before}
use Rattle.site_meaning.proofs.RiseLemmas.{played-ats, played_rises}
use Rattle.packed_code.proofs.Lists.{all_mapped}
use Rattle.cycle_run.specs.Tape.{call_at, calls_in, calls_of_cycle}
use Rattle.cycle_run.specs.Batch.{calls_of_cycles}
use Rattle.cycle_run.specs.Cycle.{stand_of}
use Rattle.cycle_run.specs.Step.{IsMomentOf, IsScheduled, FitCode}
use Rattle.cycle_run.proofs.MomentLemmas.{moments_fit, row_long, moved_fit}
use Rattle.cycle_run.proofs.ScheduleLemmas.{moments_are}
use Rattle.vcd_text.specs.Dump.{Var}
use Rattle.vcd_text.specs.Sound.{Rises, is_var, AreDrives, IsCall}
use Rattle.vcd_dump.proofs.SoundLemmas.{given_sound}

-- calls from a time on and before another one
pub record CallsIn (vars : List Var) (low high : ℕ) (calls : Calls) : Type 0 where
  pub rise : Rises low calls
  pub before : AllByRecursion (λ (call : ℕ × List (ℕ × Drive)). call.0 < high) calls
  pub each : AllByRecursion (IsCall vars) calls

-- two lists of calls, one after the other
rises_both : (low mid : ℕ) (a b : Calls) → low ≤ mid → Rises low a → AllByRecursion (λ (call : ℕ × List (ℕ × Drive)). call.0 < mid) a
    → Rises mid b → Rises low (a ++ b)
rises_both low mid [] [] less ra below rb = tt
rises_both low mid [] (c ∷ b) less ra below rb = (omega (arith, less, rb.0), rb.1)
rises_both low mid (c ∷ a) b less ra below rb =
    let here = below.0 in (ra.0, rises_both (c.0 + 1) mid a b (omega (arith, here)) ra.1 below.1 rb)

pub calls_both : (vars : List Var) (low mid high : ℕ) (a b : Calls) → low ≤ mid → mid ≤ high → CallsIn vars low mid a → CallsIn vars mid high b
    → CallsIn vars low high (a ++ b)
calls_both vars low mid high a b first second x y = record {
  rise = rises_both low mid a b first x.rise x.before y.rise;
  before = all_append (λ (call : ℕ × List (ℕ × Drive)). call.0 < high) a b
      (all_from (λ (call : ℕ × List (ℕ × Drive)). call.0 < mid) (λ (call : ℕ × List (ℕ × Drive)). call.0 < high) (λ call h. omega (arith, h, second)) a x.before)
      y.before;
  each = all_append (IsCall vars) a b x.each y.each;
}

-- ---- the moments of a cycle

module _ (device : Device) (vars : List Var) (signals high : ℕ) (small : high ≤ 2 ^ 128)
    (there : (signal : ℕ) → signal < signals → is_driven device signal ≡ true → is_var vars signal ≡ true) where
  -- the call of a moment, in front of later ones
  one_call : (least at : ℕ) (drives : List (ℕ × Drive)) (later : Calls) → least ≤ at → at < high → AreDrives vars drives
      → CallsIn vars (at + 1) high later → CallsIn vars least high (call_at at drives ++ later)
  one_call least at [] [] low below are rest = record { rise = tt; before = tt; each = tt }
  one_call least at [] (c ∷ later) low below are rest = record {
    rise = (omega (arith, low, rest.rise.0), rest.rise.1);
    before = rest.before;
    each = rest.each;
  }
  one_call least at (d ∷ drives) later low below are rest = record {
    rise = (low, rest.rise);
    before = (below, rest.before);
    each = (record { instant = omega (arith, below, small); some = omega arith; drives = are }, rest.each);
  }

  ats : List Moment → List ℕ
  ats moments = map (λ (m : Moment). m.at) moments

  moments_calls : (along : Along) (least : ℕ) (moments : List Moment) → AllByRecursion (λ (n : ℕ). least ≤ n) (ats moments)
      → edge.Rises (ats moments) → AllByRecursion (λ (n : ℕ). n < high) (ats moments) → AllByRecursion (IsMomentOf signals) moments
      → CallsIn vars least high (calls_in device along moments)
  unfolding calls_in ats
  moments_calls along least [] low rise below of = record { rise = tt; before = tt; each = tt }
  moments_calls along least (m ∷ moments) low rise below of =
      let next = after_moment device along m in
      let rest = moments_calls next (m.at + 1) moments
      (all_from (λ (n : ℕ). m.at < n) (λ (n : ℕ). m.at + 1 ≤ n) (λ n h. omega (arith, h)) (ats moments) rise.0) rise.1 below.1 of.1 in
      one_call least m.at (driven device along.priors m) (calls_in device next moments) low.0 below.0
      (given_sound device along.priors vars signals there m.drives of.0.rising
      (recursion_from_All (λ (g : ℕ × Push). g.0 < signals) m.drives of.0.below)) rest

  pub all_moments : (along : Along) (least : ℕ) (moments : List Moment) → AllByRecursion (λ (n : ℕ). least ≤ n) (map (λ (m : Moment). m.at) moments)
      → edge.Rises (map (λ (m : Moment). m.at) moments) → AllByRecursion (λ (n : ℕ). n < high) (map (λ (m : Moment). m.at) moments)
      → AllByRecursion (IsMomentOf signals) moments → CallsIn vars least high (calls_in device along moments)
  unfolding ats
  all_moments = moments_calls

-- one cycle's instants rise
cycle_rises : (stand : Stand) (going : Going) (cycle : Cycle) → FitStand stand → edge.Rises (instants_of (played_cycle stand 0 going cycle))
unfolding played
cycle_rises stand going cycle fit =
    subst edge.Rises (append-nil (instants_of (played_cycle stand 0 going cycle))) (played_rises stand 0 going (cycle ∷ []) fit)

-- the calls of a cycle whose moments are of so many signals
pub cycle_calls : (stand : Stand) (going : Going) (cycle : Cycle) (vars : List Var) (signals : ℕ) → FitStand stand
    → (after_cycle stand going cycle).time ≤ 2 ^ 128
    → ((signal : ℕ) → signal < signals → is_driven stand.device signal ≡ true → is_var vars signal ≡ true)
    → AllByRecursion (IsMomentOf signals) (moments_in stand going.time cycle)
    → CallsIn vars going.time (after_cycle stand going cycle).time (calls_of_cycle stand going cycle)
cycle_calls stand going cycle vars signals fit small there of =
    let moments = moments_in stand going.time cycle in
    let same : instants_of (played_cycle stand 0 going cycle) ≡ map (λ (m : Moment). m.at) moments =
    played-ats stand.device (whose_next 0 going cycle) (along_of going) [] moments in
    let end = (after_cycle stand going cycle).time in
    all_moments stand.device vars signals end small there (along_of going) going.time moments
    (subst (AllByRecursion (λ (n : ℕ). going.time ≤ n)) same
    (all_mapped (λ (n : ℕ). going.time ≤ n) (λ (m : PlayedMoment). m.at) (played_cycle stand 0 going cycle).moments (cycle_from stand 0 going cycle)))
    (subst edge.Rises same (cycle_rises stand going cycle fit))
    (subst (AllByRecursion (λ (n : ℕ). n < end)) same
    (all_mapped (λ (n : ℕ). n < end) (λ (m : PlayedMoment). m.at) (played_cycle stand 0 going cycle).moments (cycle_before stand 0 going cycle fit)))
    of

-- ---- cycles of a program

-- the moments of a cycle are of the signals of its program
later_of : (signals start : ℕ) (moments : List Moment) → AllByRecursion (IsScheduled signals) moments
    → AllByRecursion (IsMomentOf signals) (map (edge.later start) moments)
later_of signals start [] all = tt
later_of signals start (m ∷ moments) all = (record { rising = all.0.of.rising; below = all.0.of.below }, later_of signals start moments all.1)

module _ (code : Program) (skews : List ℤ) (device : Device) (program : IsProgram code) (fit : FitCode code skews) where
  cycle_of : (start : ℕ) (cycle : Cycle) → IsOf code cycle.table cycle.row
      → AllByRecursion (IsMomentOf (length code.signals)) (moments_in (stand_of code skews device) start cycle)
  cycle_of start cycle of =
      let table = slice_get-there code.tables cycle.table of.table in
      let row = slice_get-there code.rows cycle.row of.row in
      let long = row_long code cycle.row row.0 program of.row row.1 in
      let period = (period_fits code cycle.table table.0 program of.table (sym (get_or_from_slice_get code.tables cycle.table table.0 table.0 table.1))).1 in
      let moments = edge.moments_of table.0 row.0 skews 0 in
      subst (AllByRecursion (IsMomentOf (length code.signals))) (moments_are code skews device start cycle table.0 row.0 moments table.1 row.1 refl)
      (later_of (length code.signals) start moments (recursion_from_All (IsScheduled (length code.signals)) moments
      (moments_fit table.0 row.0 skews (length code.signals) long period (moved_fit code skews cycle.table table.0 row.0 fit of.table table.1 long))))

  -- a cycle is short
  period_short : (cycle : Cycle) → IsOf code cycle.table cycle.row → period_of code.tables cycle.table ≤ 1000000000000
  period_short cycle of =
      let table = slice_get-there code.tables cycle.table of.table in
      let period = (period_fits code cycle.table table.0 program of.table (sym (get_or_from_slice_get code.tables cycle.table table.0 table.0 table.1))).1 in
      let same : period_of code.tables cycle.table ≡ table.0.period = ap (λ (o : Option Table). option_map_or (λ t. t.period) o 0) table.1 in
      omega (arith, period, same)

  stand_fits : FitStand (stand_of code skews device)
  stand_fits = record { one_each = fit.one_each; inside = fit.inside }

  pub cycles_calls : (going : Going) (cycles : List Cycle) (vars : List Var)
      → ((signal : ℕ) → signal < length code.signals → is_driven device signal ≡ true → is_var vars signal ≡ true)
      → AllByRecursion (λ (cycle : Cycle). IsOf code cycle.table cycle.row) cycles
      → going.time + 1000000000000 * length cycles ≤ 2 ^ 128
      → (high : ℕ) × (going.time ≤ high) × CallsIn vars going.time high (calls_of_cycles (stand_of code skews device) going cycles)
  unfolding calls_of_cycles
  cycles_calls going [] vars there named few = (going.time, omega arith, record { rise = tt; before = tt; each = tt })
  cycles_calls going (cycle ∷ cycles) vars there named few =
      let stand = stand_of code skews device in
      let next = after_cycle stand going cycle in
      let short = period_short cycle named.0 in
      let first = cycle_calls stand going cycle vars (length code.signals) stand_fits (omega (arith, short, few)) there (cycle_of going.time cycle named.0) in
      let rest = cycles_calls next cycles vars there named.1 (omega (arith, short, few)) in (
        rest.0,
        omega (arith, rest.1),
        calls_both vars going.time next.time rest.0 (calls_of_cycle stand going cycle) (calls_of_cycles stand next cycles)
            (omega arith) rest.1 first rest.2,
      )
