-- Instants rise from moment to moment and from cycle to cycle, so that contact is lost where a poll finds it: `reached_there`.
use Rattle.std.proofs.Common.{◌≡◌, ℕ, ℤ, suc, ◌+◌, ◌<◌, ◌≤◌, Bool, true, false, cond, eqb, List, [], ◌∷◌, ◌++◌, length, map, Option, Some, None, refl, sym, ap, ◌∙◌, subst, arith, inl, inr}
use Rattle.std.specs.Prelude.{◌&&◌, slice_get}
use Rattle.std.specs.List.{AllByRecursion, find}
use Rattle.std.specs.Option.{option_map_or, option_or}
use Rattle.std.proofs.lemmas.Bool.{and_from, cases_lt, eq-eqb, ne_eqb}
use Rattle.std.proofs.lemmas.List.{append_assoc, get_or_past}
use Rattle.std.proofs.lemmas.List.Folds.{find-append}
use Rattle.std.proofs.lemmas.Option.{slice_get_within}
use Rattle.text_bytes.proofs.ListLemmas.{suc-plus}
use Rattle.tester_types.specs.declared.wave.Event.{Event}
use Rattle.tester_types.specs.declared.wave.Table.{Table}
use Rattle.tester_types.specs.declared.record.Fail.{Fail}
use Rattle.tester_types.specs.declared.cycle.Cycle.{Cycle}
use Rattle.tester_types.specs.declared.cycle.Moment.{Moment}
use Rattle.packed_code.specs.Program.{Program}
use Rattle.packed_code.specs.Conditions.{IsProgram, IsRow, characters_of}
use Rattle.packed_code.specs.Cycles.{period_of}
use Rattle.packed_code.proofs.Lists.{behind_at}
use Rattle.edge_gen.specs.Signals.{signals_of}
use Rattle.edge_gen.specs.Moments.{Rises, moment_at, instants, times_of, moments_of}
use Rattle.edge_gen.proofs.InstantLemmas.{instants_are}
use Rattle.die_sim.specs.Die.{Device}
use Rattle.strobe_check.specs.Entry.{Entry}
use Rattle.site_meaning.specs.Playing.{Stand, Going, Along, Whose, PlayedMoment, along_of, whose_next, moments_in, after_moment, entry_of, makes_call, played_moment, moments_played, played_cycle, after_cycle}
use Rattle.site_meaning.specs.Trials.{played, after_cycles, fails_in, is_hit, Lost, behind_cycle, lost_at, reached}
use Rattle.cycle_run.specs.Cycle.{IsCallAt, played_behind}
use Rattle.cycle_run.specs.Step.{FitCode}
use Rattle.cycle_run.proofs.MomentLemmas.{StayInside, instants_inside, moved_fit}
use Rattle.cycle_run.proofs.CycleLemmas.{played-split}
use Rattle.cycle_run.specs.BatchLaws.{after_cycles-none, after_cycles-next, fails_in-none, fails_in-next}

-- ---- the instants of a cycle

-- moments between two instants
abbrev pub Between : ℕ → ℕ → List Moment → Type 0
Between from until moments = AllByRecursion (λ (m : Moment). (from ≤ m.at) × (m.at < until)) moments

-- moments whose instants rise
abbrev pub Rising : List Moment → Type 0
Rising [] = Unit {0}
Rising (m ∷ ms) = AllByRecursion (λ (n : Moment). m.at < n.at) ms × Rising ms

module _ (start : ℕ) (signals : List (ℕ × List Event)) where
  later_all : (t : ℕ) (ts : List ℕ) → AllByRecursion (λ u. t < u) ts
      → AllByRecursion (λ (n : Moment). start + t < n.at) (map (moment_at start signals) ts)
  later_all t [] all = tt
  later_all t (u ∷ us) all = (omega (arith, all.0), later_all t us all.1)

  rising_all : (ts : List ℕ) → Rises ts → Rising (map (moment_at start signals) ts)
  rising_all [] rises = tt
  rising_all (t ∷ ts) rises = (later_all t ts rises.0, rising_all ts rises.1)

  between_all : (period : ℕ) (ts : List ℕ) → AllByRecursion (λ t. t < period) ts
      → Between start (start + period) (map (moment_at start signals) ts)
  between_all period [] all = tt
  between_all period (t ∷ ts) all = ((omega arith, omega (arith, all.0)), between_all period ts all.1)

rising_moments : (table : Table) (row : List ℕ) (skews : List ℤ) (start : ℕ) → Rising (moments_of table row skews start)
unfolding moments_of
rising_moments table row skews start =
    let signals = signals_of table row skews in
    rising_all start signals (instants (times_of signals)) (instants_are (times_of signals)).rising

between_moments : (table : Table) (row : List ℕ) (skews : List ℤ) (start : ℕ) → StayInside table row skews
    → Between start (start + table.period) (moments_of table row skews start)
unfolding moments_of
between_moments table row skews start inside =
    let signals = signals_of table row skews in
    between_all start signals table.period (instants (times_of signals)) (instants_inside table row skews inside)

-- whatever the row's number is, its events stay inside
stay_inside_row : (code : Program) (skews : List ℤ) (number place : ℕ) (table : Table) → FitCode code skews → IsProgram code
    → slice_get code.tables number ≡ Some table → StayInside table (characters_of code.rows place) skews
stay_inside_row code skews number place table fit program found =
    elim (cases_lt place (length code.rows)) [
      | inl within ↦
          let long = (behind_at (IsRow (length code.signals)) [] code.rows place [] program.rows within).places in
          (moved_fit code skews number table (characters_of code.rows place) fit (slice_get_within code.tables number table found) found long).inside
      | inr past ↦
          let none = ap (λ (l : List ℕ). length l) (get_or_past code.rows place [] past) in
          (λ signal low. absurd (omega (arith, low, none)))
    ]

-- the instants of a cycle rise
pub cycle_rises : (stand : Stand) (time : ℕ) (cycle : Cycle) → Rising (moments_in stand time cycle)
unfolding moments_in
cycle_rises stand time cycle = by (slice_get stand.code.tables cycle.table)
  where
    by : (o : Option Table)
        → Rising (option_map_or (λ table. moments_of table (characters_of stand.code.rows cycle.row) stand.skews time) o [])
    by None = tt
    by (Some table) = rising_moments table (characters_of stand.code.rows cycle.row) stand.skews time

-- and are inside it
pub cycle_between : (stand : Stand) (time : ℕ) (cycle : Cycle) → FitCode stand.code stand.skews → IsProgram stand.code
    → Between time (time + period_of stand.code.tables cycle.table) (moments_in stand time cycle)
unfolding moments_in
cycle_between stand time cycle fit program = by (slice_get stand.code.tables cycle.table) refl
  where
    by : (o : Option Table) → slice_get stand.code.tables cycle.table ≡ o
        → Between time (time + option_map_or (λ t. t.period) o 0)
        (option_map_or (λ table. moments_of table (characters_of stand.code.rows cycle.row) stand.skews time) o [])
    by None is = tt
    by (Some table) is =
        between_moments table (characters_of stand.code.rows cycle.row) stand.skews time
        (stay_inside_row stand.code stand.skews cycle.table cycle.row table fit program is)

-- ---- one of the moments

one_of : {X : Type 0} (P : X → Type 0) (xs ys : List X) (x : X) → AllByRecursion P (xs ++ x ∷ ys) → P x
one_of P [] ys x all = all.0
one_of P (y ∷ xs) ys x all = one_of P xs ys x all.1

pub below_one : (done later : List Moment) (moment : Moment) → Rising (done ++ moment ∷ later)
    → AllByRecursion (λ (m : Moment). m.at < moment.at) done
below_one [] later moment rises = tt
below_one (first ∷ done) later moment rises =
    (one_of (λ (n : Moment). first.at < n.at) done later moment rises.0, below_one done later moment rises.1)

pub behind_one : (done later : List Moment) (moment : Moment) → Rising (done ++ moment ∷ later)
    → AllByRecursion (λ (m : Moment). moment.at < m.at) later
behind_one [] later moment rises = rises.0
behind_one (first ∷ done) later moment rises = behind_one done later moment rises.1

below_all : (from until at : ℕ) (moments : List Moment) → until ≤ at → Between from until moments
    → AllByRecursion (λ (m : Moment). m.at < at) moments
below_all from until at [] late between = tt
below_all from until at (m ∷ ms) late between = (omega (arith, late, between.0.1), below_all from until at ms late between.1)

-- moments before an instant aren't hit at it
no_hit : (device : Device) (whose : Whose) (along : Along) (before : List Entry) (moments : List Moment) (at : ℕ)
    → AllByRecursion (λ (m : Moment). m.at < at) moments
    → find (is_hit at) (moments_played device whose along before moments) ≡ None
unfolding moments_played
no_hit device whose along before [] at all = refl
no_hit device whose along before (moment ∷ later) at all =
    let next = after_moment device along moment in
    let rest = moments_played device whose next (before ++ entry_of device whose moment next.die ∷ []) later in
    miss (Some (played_moment device along before moment)) (find (is_hit at) rest) (eqb moment.at at)
    (makes_call device along before moment) (ne_eqb moment.at at (λ e. omega (arith, e, all.0)))
    ∙ no_hit device whose next (before ++ entry_of device whose moment next.die ∷ []) later at all.1
  where
    miss : (o other : Option PlayedMoment) (b c : Bool) → b ≡ false → cond (b && c) o other ≡ other
    miss o other b c e = ap (λ (x : Bool). cond (x && c) o other) e

-- one that makes a call at it is
hit : (at : ℕ) (earlier rest : List PlayedMoment) (moment : PlayedMoment) → find (is_hit at) earlier ≡ None → moment.at ≡ at
    → moment.calls ≡ true
    → find (is_hit at) (earlier ++ moment ∷ rest) ≡ Some moment
hit at earlier rest moment none there calls =
    find-append (is_hit at) earlier (moment ∷ rest)
    ∙ ap (λ (o : Option PlayedMoment). option_or o (find (is_hit at) (moment ∷ rest))) none
    ∙ ap (λ (b : Bool). cond b (Some moment) (find (is_hit at) rest))
    (and_from (eqb moment.at at) moment.calls (eq-eqb moment.at at there) calls)

module _ (stand : Stand) (fit : FitCode stand.code stand.skews) (program : IsProgram stand.code) (exec : ℕ) where
  -- the moment of a cycle at which contact is lost
  hit_cycle : (going : Going) (cycle : Cycle) (at : ℕ) (call : IsCallAt stand exec going cycle at)
      → find (is_hit at) (played_cycle stand exec going cycle).moments
      ≡ Some (played_behind stand exec going cycle call.done call.moment)
  hit_cycle going cycle at call =
      let whose = whose_next exec going cycle in
      let along = along_of going in
      let rises = subst Rising call.split (cycle_rises stand going.time cycle) in
      let below = below_one call.done call.later call.moment rises in
      let early = subst (λ (n : ℕ). AllByRecursion (λ (m : Moment). m.at < n) call.done) call.then below in
      ap (λ (l : List Moment). find (is_hit at) (moments_played stand.device whose along [] l)) call.split
      ∙ ap (find (is_hit at)) (played-split stand.device whose along [] call.done call.later call.moment)
      ∙ hit at (moments_played stand.device whose along [] call.done) _
      (played_behind stand exec going cycle call.done call.moment)
      (no_hit stand.device whose along [] call.done at early) call.then call.calls

  -- a cycle that ends before isn't hit
  no_hit_cycle : (going : Going) (cycle : Cycle) (at : ℕ) → (after_cycle stand going cycle).time ≤ at
      → find (is_hit at) (played_cycle stand exec going cycle).moments ≡ None
  no_hit_cycle going cycle at late =
      no_hit stand.device (whose_next exec going cycle) (along_of going) [] (moments_in stand going.time cycle) at
      (below_all going.time (going.time + period_of stand.code.tables cycle.table) at (moments_in stand going.time cycle) late
      (cycle_between stand going.time cycle fit program))

  -- the call comes inside the cycle
  pub call_inside : (going : Going) (cycle : Cycle) (at : ℕ) → IsCallAt stand exec going cycle at
      → (going.time ≤ at) × (at < (after_cycle stand going cycle).time)
  call_inside going cycle at call =
      let all = subst (Between going.time (going.time + period_of stand.code.tables cycle.table)) call.split
      (cycle_between stand going.time cycle fit program) in
      let own = one_of (λ (m : Moment). (going.time ≤ m.at) × (m.at < going.time + period_of stand.code.tables cycle.table)) call.done call.later
      call.moment all in
      (omega (arith, own.0, call.then), omega (arith, own.1, call.then))

  pub call_late : (going : Going) (cycle : Cycle) (at : ℕ) → IsCallAt stand exec going cycle at → going.time ≤ at
  call_late going cycle at call = (call_inside going cycle at call).0

  -- time goes on
  pub time_grows : (going : Going) (cycles : List Cycle) → going.time ≤ (after_cycles stand going cycles).time
  time_grows going [] = let e = ap (λ (g : Going). g.time) (after_cycles-none stand going) in omega (arith, e)
  time_grows going (cycle ∷ cycles) =
      let e = ap (λ (g : Going). g.time) (after_cycles-next stand going cycle cycles) in
      let grows = time_grows (after_cycle stand going cycle) cycles in
      omega (arith, e, grows)

  -- contact that is lost in the first cycle
  reached_here : (going : Going) (cycle : Cycle) (later : List Cycle) (at : ℕ) (call : IsCallAt stand exec going cycle at)
      → reached at (played stand exec going (cycle ∷ later))
      ≡ Some (record { cycles = 0; fails = (played_behind stand exec going cycle call.done call.moment).earlier })
  unfolding played reached
  reached_here going cycle later at call =
      ap (λ (o : Option PlayedMoment). lost_at o (behind_cycle (played_cycle stand exec going cycle)
      (reached at (played stand exec (after_cycle stand going cycle) later)))) (hit_cycle going cycle at call)

  -- contact that is lost behind one more cycle
  reached_next : (going : Going) (first : Cycle) (later : List Cycle) (at : ℕ) (lost : Lost) → (after_cycle stand going first).time ≤ at
      → reached at (played stand exec (after_cycle stand going first) later) ≡ Some lost
      → reached at (played stand exec going (first ∷ later))
      ≡ Some (record { cycles = lost.cycles + 1; fails = (played_cycle stand exec going first).fails ++ lost.fails })
  unfolding played reached
  reached_next going first later at lost late rest =
      ap (λ (o : Option PlayedMoment). lost_at o (behind_cycle (played_cycle stand exec going first)
      (reached at (played stand exec (after_cycle stand going first) later)))) (no_hit_cycle going first at late)
      ∙ ap (behind_cycle (played_cycle stand exec going first)) rest

  -- what is found of contact that is lost behind some cycles
  pub reached_there : (done later : List Cycle) (going mid : Going) (cycle : Cycle) (at : ℕ) → mid ≡ after_cycles stand going done
      → (call : IsCallAt stand exec mid cycle at)
      → reached at (played stand exec going (done ++ cycle ∷ later))
      ≡ Some (record {
        cycles = length done;
        fails = fails_in (played stand exec going done)
            ++ (played_behind stand exec mid cycle call.done call.moment).earlier;
      })
  reached_there [] later going mid cycle at is call =
      let own = (played_behind stand exec mid cycle call.done call.moment).earlier in
      subst (λ (g : Going). reached at (played stand exec g (cycle ∷ later)) ≡ Some (record { cycles = 0; fails = own }))
      (is ∙ after_cycles-none stand going) (reached_here mid cycle later at call)
      ∙ ap (λ (l : List Fail). Some (record { cycles = 0; fails = l ++ own })) (sym (fails_in-none stand exec going))
  reached_there (first ∷ done) later going mid cycle at is call =
      let next = after_cycle stand going first in
      let own = (played_behind stand exec mid cycle call.done call.moment).earlier in
      let behind = is ∙ after_cycles-next stand going first done in
      let time = ap (λ (g : Going). g.time) behind in
      let grows = time_grows next done in
      let late = call_late mid cycle at call in
      let fails = fails_in (played stand exec next done) in
      let one = (played_cycle stand exec going first).fails in
      reached_next going first (done ++ cycle ∷ later) at _ (omega (arith, time, grows, late))
      (reached_there done later next mid cycle at behind call)
      ∙ ap (λ (n : ℕ). Some (record { cycles = n; fails = one ++ (fails ++ own) })) (sym (suc-plus (length done)))
      ∙ ap (λ (l : List Fail). Some (record { cycles = suc (length done); fails = l })) (sym (append_assoc one fails own))
      ∙ ap (λ (l : List Fail). Some (record { cycles = suc (length done); fails = l ++ own })) (sym (fails_in-next stand exec going first done))
