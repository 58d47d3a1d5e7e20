-- The moments of a cycle come at its start or later, and before its end.
use Rattle.std.proofs.Common.{◌≡◌, ℕ, ◌+◌, ◌<◌, ◌≤◌, ℤ, true, eqb, List, [], ◌∷◌, ◌++◌, map, reverse, Option, Some, None, refl, subst, arith}
use Rattle.std.specs.List.{AllByRecursion, find, enumerate_from, slice_get}
use Rattle.std.specs.Option.{IfSome, option_map_or}
use Rattle.std.proofs.lemmas.Bool.{and_parts, cond_both}
use Rattle.std.proofs.lemmas.Int.{ints}
use Rattle.std.proofs.lemmas.List.{length-map}
use Rattle.std.proofs.lemmas.Option.{slice_get_within, get_or_from_slice_get}
use Rattle.tester_types.specs.Waves.{is_wave}
use Rattle.tester_types.specs.declared.wave.Event.{Event}
use Rattle.tester_types.specs.declared.wave.Table.{Table}
use Rattle.tester_types.specs.declared.cycle.Cycle.{Cycle}
use Rattle.tester_types.specs.declared.cycle.Moment.{Moment}
use Rattle.packed_code.specs.Conditions.{characters_of}
use Rattle.packed_code.specs.Cycles.{period_of}
use Rattle.edge_gen.specs.Signals.{wave_of, events_of, moved_time, moved, skew_of, signals_of, stays_inside, stay_inside, is_inside, keeps_inside}
use Rattle.edge_gen.specs.Moments.{times_of, instants, moment_at, moments_of}
use Rattle.edge_gen.proofs.SignalLemmas.{wave_of-signal}
use Rattle.edge_gen.proofs.InstantLemmas.{All-instants}
use Rattle.edge_gen.proofs.InsideLemmas.{found_passes, all_reversed, own_events}
use Rattle.die_sim.specs.Die.{Device}
use Rattle.strobe_check.specs.Entry.{Entry}
use Rattle.packed_code.proofs.Lists.{all_of_any, all_mapped, all_flat}
use Rattle.plan_rows.specs.Rows.{skews_at}
use Rattle.lot_plan.specs.Skews.{skew_by}
use Rattle.site_meaning.specs.Playing.{Stand, Going, Along, Whose, PlayedMoment, FitStand, along_of, whose_next, after_moment, entry_of, moments_in, moments_played, played_cycle, after_cycle}
use Rattle.site_meaning.specs.Part.{Part, IsPart, lot_in, skews_in, stand_for}

-- ---- the events of a cycle are inside it

-- each event of a signal, moved, stays inside the cycle
events_inside : (table : Table) (skews : List ℤ) (signal character : ℕ) → keeps_inside table skews ≡ true
    → stay_inside table.period (skew_of skews signal) (events_of table.waves signal character) ≡ true
events_inside table skews signal character all =
    own_events table.period skews signal (wave_of table.waves signal character) (wave_of-signal table.waves signal character)
    (cond_both (eqb character 0) None (find (is_wave signal character) (reverse table.waves))
    (λ o. IfSome o (λ w. is_inside table.period skews w ≡ true)) (λ _. tt)
    (λ _. found_passes (is_wave signal character) (is_inside table.period skews) (reverse table.waves)
    (all_reversed (is_inside table.period skews) table.waves all)))

time_inside : (period : ℕ) (skew : ℤ) (time : ℕ) → stays_inside period skew time ≡ true → moved_time skew time < period
time_inside period skew time h = grind (arith, ints)

times_inside : (period : ℕ) (skew : ℤ) (events : List Event) → stay_inside period skew events ≡ true
    → AllByRecursion (λ (n : ℕ). n < period) (map (λ (e : Event). e.time) (map (moved skew) events))
times_inside period skew [] h = tt
times_inside period skew (e ∷ events) h =
    let parts = and_parts (stays_inside period skew e.time) (stay_inside period skew events) h in
    (time_inside period skew e.time parts.0, times_inside period skew events parts.1)

-- the times of a row
row_inside : (table : Table) (row : List ℕ) (skews : List ℤ) → keeps_inside table skews ≡ true
    → AllByRecursion (λ (n : ℕ). n < table.period) (times_of (signals_of table row skews))
row_inside table row skews all =
    all_flat (λ (n : ℕ). n < table.period) (λ (signal : ℕ × List Event). map (λ (e : Event). e.time) signal.1)
    (signals_of table row skews)
    (all_mapped (λ (signal : ℕ × List Event). AllByRecursion (λ (n : ℕ). n < table.period) (map (λ (e : Event). e.time) signal.1))
    (λ (place : ℕ × ℕ). (place.0, map (moved (skew_of skews place.0)) (events_of table.waves place.0 place.1)))
    (enumerate_from 0 row)
    (all_of_any (λ (place : ℕ × ℕ). AllByRecursion (λ (n : ℕ). n < table.period)
    (map (λ (e : Event). e.time) (map (moved (skew_of skews place.0)) (events_of table.waves place.0 place.1))))
    (enumerate_from 0 row)
    (λ place. times_inside table.period (skew_of skews place.0) (events_of table.waves place.0 place.1)
    (events_inside table skews place.0 place.1 all))))

-- ---- the moments of a cycle

-- instants as dates
dated_from : (time : ℕ) (signals : List (ℕ × List Event)) (ns : List ℕ)
    → AllByRecursion (λ (m : Moment). time ≤ m.at) (map (moment_at time signals) ns)
dated_from time signals [] = tt
dated_from time signals (n ∷ ns) = (omega arith, dated_from time signals ns)

dated_before : (time period : ℕ) (signals : List (ℕ × List Event)) (ns : List ℕ) → AllByRecursion (λ (n : ℕ). n < period) ns
    → AllByRecursion (λ (m : Moment). m.at < time + period) (map (moment_at time signals) ns)
dated_before time period signals [] all = tt
dated_before time period signals (n ∷ ns) all =
    let inside = all.0 in (omega (arith, inside), dated_before time period signals ns all.1)

-- what holds of the instants of moments holds of them as they are played
played-at : (P : ℕ → Type 0) (device : Device) (whose : Whose) (along : Along) (before : List Entry) (ms : List Moment)
    → AllByRecursion (λ (m : Moment). P m.at) ms
    → AllByRecursion (λ (m : PlayedMoment). P m.at) (moments_played device whose along before ms)
unfolding moments_played
played-at P device whose along before [] all = tt
played-at P device whose along before (m ∷ ms) all = (
  all.0,
  played-at P device whose (after_moment device along m)
      (before ++ entry_of device whose m (after_moment device along m).die ∷ []) ms all.1,
)

-- the moments of a table that may be missing
moments_from : (stand : Stand) (time : ℕ) (cycle : Cycle) → AllByRecursion (λ (m : Moment). time ≤ m.at) (moments_in stand time cycle)
unfolding moments_in moments_of
moments_from stand time cycle = go (slice_get stand.code.tables cycle.table)
  where
    row : List ℕ
    row = characters_of stand.code.rows cycle.row

    go : (found : Option Table) → AllByRecursion (λ (m : Moment). time ≤ m.at)
        (option_map_or (λ table. moments_of table row stand.skews time) found [])
    go None = tt
    go (Some table) =
        dated_from time (signals_of table row stand.skews) (instants (times_of (signals_of table row stand.skews)))

moments_before : (stand : Stand) (time : ℕ) (cycle : Cycle) → FitStand stand
    → AllByRecursion (λ (m : Moment). m.at < time + period_of stand.code.tables cycle.table) (moments_in stand time cycle)
unfolding moments_in moments_of
moments_before stand time cycle fit = go (slice_get stand.code.tables cycle.table) refl
  where
    row : List ℕ
    row = characters_of stand.code.rows cycle.row

    inside : (table : Table) → slice_get stand.code.tables cycle.table ≡ Some table → keeps_inside table stand.skews ≡ true
    inside table found =
        let within = slice_get_within stand.code.tables cycle.table table found in
        subst (λ (t : Table). keeps_inside t stand.skews ≡ true) (get_or_from_slice_get stand.code.tables cycle.table table table found)
        (fit.inside cycle.table table within)

    go : (found : Option Table) → slice_get stand.code.tables cycle.table ≡ found
        → AllByRecursion (λ (m : Moment). m.at < time + option_map_or (λ t. t.period) found 0)
        (option_map_or (λ table. moments_of table row stand.skews time) found [])
    go None is = tt
    go (Some table) is =
        dated_before time table.period (signals_of table row stand.skews) (instants (times_of (signals_of table row stand.skews)))
        (All-instants (λ (n : ℕ). n < table.period) [] (times_of (signals_of table row stand.skews)) tt
        (row_inside table row stand.skews (inside table is)))

pub cycle_from : (stand : Stand) (exec : ℕ) (going : Going) (cycle : Cycle)
    → AllByRecursion (λ (m : PlayedMoment). going.time ≤ m.at) (played_cycle stand exec going cycle).moments
cycle_from stand exec going cycle =
    played-at (λ (n : ℕ). going.time ≤ n) stand.device (whose_next exec going cycle) (along_of going) []
    (moments_in stand going.time cycle) (moments_from stand going.time cycle)

pub cycle_before : (stand : Stand) (exec : ℕ) (going : Going) (cycle : Cycle) → FitStand stand
    → AllByRecursion (λ (m : PlayedMoment). m.at < (after_cycle stand going cycle).time) (played_cycle stand exec going cycle).moments
cycle_before stand exec going cycle fit =
    played-at (λ (n : ℕ). n < going.time + period_of stand.code.tables cycle.table) stand.device
    (whose_next exec going cycle) (along_of going) [] (moments_in stand going.time cycle) (moments_before stand going.time cycle fit)

-- ---- what an accepted plan gives

-- a cycle that takes time
abbrev pub TakesTime : Stand → Cycle → Type 0
TakesTime stand cycle = 0 < period_of stand.code.tables cycle.table

pub part_fits : (part : Part) (die number : ℕ) → IsPart part → FitStand (stand_for part die number)
unfolding skews_in
part_fits part die number is =
    record { one_each = length-map part.code.signals (λ signal. skew_by (skews_at part.site part.rows) signal.name); inside = is.inside }

pub batch_some : (part : Part) → IsPart part → 1 ≤ (lot_in part).batch
batch_some part is = is.lot.batch_some

pub tries_some : (part : Part) → IsPart part → 1 ≤ (lot_in part).tries
tries_some part is = is.lot.tries_some
