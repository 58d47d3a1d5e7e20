-- Moments rise over the cycles that an executive plays; so an instant is reached at one moment alone.
use Rattle.std.proofs.Common.{◌≡◌, ℕ, ◌+◌, ◌<◌, ◌≤◌, true, eqb, List, [], ◌∷◌, ◌++◌, map, Option, Some, None, refl, sym, ap, ◌∙◌, subst, arith}
use Rattle.std.specs.List.{AllByRecursion, find, slice_get}
use Rattle.std.specs.Option.{option_map_or}
use Rattle.std.proofs.lemmas.Bool.{eq-eqb, ne_eqb, and_from, and_left, cond-true, cond-false}
use Rattle.text_bytes.proofs.ListLemmas.{all_append}
use Rattle.tester_types.specs.declared.wave.Event.{Event}
use Rattle.tester_types.specs.declared.wave.Table.{Table}
use Rattle.tester_types.specs.declared.cycle.Cycle.{Cycle}
use Rattle.tester_types.specs.declared.cycle.Moment.{Moment}
use Rattle.packed_code.specs.Conditions.{characters_of}
use Rattle.edge_gen.specs.Signals.{signals_of}
use Rattle.edge_gen.specs.Moments.{Rises, times_of, instants, moment_at, moments_of}
use Rattle.edge_gen.proofs.InstantLemmas.{instants_are}
use Rattle.die_sim.specs.Die.{Device}
use Rattle.strobe_check.specs.Entry.{Entry}
use Rattle.packed_code.proofs.Lists.{all_mapped}
use Rattle.site_meaning.proofs.AllLemmas.{all_parts}
use Rattle.site_meaning.specs.Playing.{Stand, Going, Along, Whose, PlayedMoment, PlayedCycle, FitStand, along_of, whose_next, after_moment, entry_of, moments_in, moments_played, played_cycle, after_cycle}
use Rattle.site_meaning.specs.Trials.{played, is_hit}
use Rattle.site_meaning.specs.Rising.{instants_of, instants_in}
use Rattle.site_meaning.proofs.ReachedLemmas.{Before, From}
use Rattle.site_meaning.proofs.InstantLemmas.{cycle_before}
use Rattle.site_meaning.proofs.TimeLemmas.{played-from}

-- ---- rising numbers

-- numbers in front of a rising list's number are below it
rises_below : (ns : List ℕ) (n : ℕ) (later : List ℕ) → Rises (ns ++ n ∷ later) → AllByRecursion (λ (m : ℕ). m < n) ns
rises_below [] n later rises = tt
rises_below (m ∷ ns) n later rises =
    ((all_parts (λ (k : ℕ). m < k) ns (n ∷ later) rises.0).1.0, rises_below ns n later rises.1)

-- later dates rise too
later_rises : (time n : ℕ) (ns : List ℕ) → AllByRecursion (λ (m : ℕ). n < m) ns
    → AllByRecursion (λ (m : ℕ). time + n < m) (map (λ (m : ℕ). time + m) ns)
later_rises time n [] all = tt
later_rises time n (m ∷ ns) all = let below = all.0 in (omega (arith, below), later_rises time n ns all.1)

rises-later : (time : ℕ) (ns : List ℕ) → Rises ns → Rises (map (λ (n : ℕ). time + n) ns)
rises-later time [] rises = tt
rises-later time (n ∷ ns) rises = (later_rises time n ns rises.0, rises-later time ns rises.1)

-- two rising lists, the first below a number and the second from there on
rises_on : (now : ℕ) (ms ns : List ℕ) → Rises ms → Rises ns → AllByRecursion (λ (m : ℕ). m < now) ms
    → AllByRecursion (λ (n : ℕ). now ≤ n) ns → Rises (ms ++ ns)
rises_on now [] ns left right below above = right
rises_on now (m ∷ ms) ns left right below above =
    (all_append (λ (k : ℕ). m < k) ms ns left.0 (over ns above), rises_on now ms ns left.1 right below.1 above)
  where
    over : (ks : List ℕ) → AllByRecursion (λ (n : ℕ). now ≤ n) ks → AllByRecursion (λ (k : ℕ). m < k) ks
    over [] all = tt
    over (k ∷ ks) all = let first = below.0 in let here = all.0 in (omega (arith, first, here), over ks all.1)

-- ---- the moments of a cycle rise

dates : (time : ℕ) (signals : List (ℕ × List Event)) (ns : List ℕ)
    → map (λ (m : Moment). m.at) (map (moment_at time signals) ns) ≡ map (λ (n : ℕ). time + n) ns
dates time signals [] = refl
dates time signals (n ∷ ns) = ap (λ (l : List ℕ). (time + n) ∷ l) (dates time signals ns)

moments_rise : (stand : Stand) (time : ℕ) (cycle : Cycle) → Rises (map (λ (m : Moment). m.at) (moments_in stand time cycle))
unfolding moments_in moments_of
moments_rise stand time cycle = go (slice_get stand.code.tables cycle.table)
  where
    row : List ℕ
    row = characters_of stand.code.rows cycle.row

    go : (found : Option Table) → Rises (map (λ (m : Moment). m.at) (option_map_or (λ table. moments_of table row stand.skews time) found []))
    go None = tt
    go (Some table) =
        let signals = signals_of table row stand.skews in
        let times = instants (times_of signals) in
        subst Rises (sym (dates time signals times)) (rises-later time times (instants_are (times_of signals)).rising)

-- moments keep their instants as they are played
pub played-ats : (device : Device) (whose : Whose) (along : Along) (before : List Entry) (ms : List Moment)
    → map (λ (m : PlayedMoment). m.at) (moments_played device whose along before ms) ≡ map (λ (m : Moment). m.at) ms
unfolding moments_played
played-ats device whose along before [] = refl
played-ats device whose along before (m ∷ ms) =
    ap (λ (l : List ℕ). m.at ∷ l)
    (played-ats device whose (after_moment device along m) (before ++ entry_of device whose m (after_moment device along m).die ∷ []) ms)

cycle_rises : (stand : Stand) (exec : ℕ) (going : Going) (cycle : Cycle) → Rises (instants_of (played_cycle stand exec going cycle))
cycle_rises stand exec going cycle =
    subst Rises
    (sym (played-ats stand.device (whose_next exec going cycle) (along_of going) [] (moments_in stand going.time cycle)))
    (moments_rise stand going.time cycle)

-- ---- over cycles

from_instants : (now : ℕ) (cs : List PlayedCycle) → From now cs → AllByRecursion (λ (n : ℕ). now ≤ n) (instants_in cs)
from_instants now [] all = tt
from_instants now (c ∷ cs) all =
    all_append (λ (n : ℕ). now ≤ n) (instants_of c) (instants_in cs) (all_mapped (λ (n : ℕ). now ≤ n) (λ (m : PlayedMoment). m.at) c.moments all.0)
    (from_instants now cs all.1)

pub played_rises : (stand : Stand) (exec : ℕ) (going : Going) (cycles : List Cycle) → FitStand stand
    → Rises (instants_in (played stand exec going cycles))
unfolding played
played_rises stand exec going [] fit = tt
played_rises stand exec going (cycle ∷ cycles) fit =
    let next = after_cycle stand going cycle in
    rises_on next.time (instants_of (played_cycle stand exec going cycle)) (instants_in (played stand exec next cycles))
    (cycle_rises stand exec going cycle) (played_rises stand exec next cycles fit)
    (all_mapped (λ (n : ℕ). n < next.time) (λ (m : PlayedMoment). m.at) (played_cycle stand exec going cycle).moments
    (cycle_before stand exec going cycle fit))
    (from_instants next.time (played stand exec next cycles) (played-from stand exec next cycles))

-- ---- one moment alone

before_from : (now : ℕ) (cs : List PlayedCycle) → AllByRecursion (λ (n : ℕ). n < now) (instants_in cs) → Before now cs
before_from now [] all = tt
before_from now (c ∷ cs) all =
    let parts = all_parts (λ (n : ℕ). n < now) (instants_of c) (instants_in cs) all in
    (moments_of_instants c.moments parts.0, before_from now cs parts.1)
  where
    moments_of_instants : (ms : List PlayedMoment) → AllByRecursion (λ (n : ℕ). n < now) (map (λ (k : PlayedMoment). k.at) ms)
        → AllByRecursion (λ (m : PlayedMoment). m.at < now) ms
    moments_of_instants [] h = tt
    moments_of_instants (m ∷ ms) h = (h.0, moments_of_instants ms h.1)

-- the first moment of an instant
find-moment : (ms ns : List PlayedMoment) (m : PlayedMoment) → m.calls ≡ true
    → AllByRecursion (λ (n : ℕ). n < m.at) (map (λ (k : PlayedMoment). k.at) ms)
    → find (is_hit m.at) (ms ++ m ∷ ns) ≡ Some m
find-moment [] ns m calls below =
    cond-true (is_hit m.at m) (Some m) (find (is_hit m.at) ns) (and_from (eqb m.at m.at) m.calls (eq-eqb m.at m.at refl) calls)
find-moment (k ∷ ms) ns m calls below =
    let first = below.0 in
    cond-false (is_hit m.at k) (Some k) (find (is_hit m.at) (ms ++ m ∷ ns))
    (and_left (eqb k.at m.at) k.calls (ne_eqb k.at m.at (λ e. omega (arith, first, e))))
    ∙ find-moment ms ns m calls below.1
