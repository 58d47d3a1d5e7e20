-- Each fail that a try keeps is at a signal of its die's binding, and what was seen there doesn't meet what was wanted.
use Rattle.std.proofs.Common.{◌≡◌, ℕ, zero, suc, ◌+◌, ◌<◌, Bool, true, false, ◌&&◌, cond, not, eqb, ltb, List, [], ◌∷◌, ◌++◌, length, map, take, filter, Option, Some, None, refl, subst, zero-add}
use Rattle.std.specs.List.{AllByRecursion, cons_option, enumerate_from, filter_map, find, flat_map, range_with_len}
use Rattle.std.specs.Option.{option_map, option_map_or}
use Rattle.std.proofs.lemmas.Bool.{cond_both, false≢true}
use Rattle.std.proofs.lemmas.List.FromFn.{length-map-range_with_len}
use Rattle.tester_types.specs.declared.cycle.Cycle.{Cycle}
use Rattle.tester_types.specs.declared.cycle.Moment.{Moment}
use Rattle.tester_types.specs.declared.wave.Look.{Look}
use Rattle.tester_types.specs.declared.record.By.TheVariants as by
use Rattle.tester_types.specs.declared.record.Fail.{Fail}
use Rattle.tester_types.specs.declared.record.Verdict.TheVariants as verdict
use Rattle.die_sim.specs.Die.{Device}
use Rattle.strobe_check.specs.Look.{is_met}
use Rattle.strobe_check.specs.Entry.{Entry, fail_at}
use Rattle.strobe_check.specs.Extent.{Extent, extents}
use Rattle.strobe_check.specs.Fails.{meets, fail_of, fails_of, at_place, bound_signals, fails}
use Rattle.strobe_check.proofs.PlaceLemmas.{bound_from-below}
use Rattle.text_bytes.proofs.ListLemmas.{all_append, all_from}
use Rattle.packed_code.proofs.Lists.{all_of_any, all_mapped, all_flat}
use Rattle.site_meaning.specs.Playing.{Stand, Going, Along, Whose, PlayedMoment, PlayedCycle, is_bound, bound_of, along_of, after_moment, entry_of, entries_in, moments_in, moments_played, whose_next, played_cycle, after_cycle, starting}
use Rattle.site_meaning.specs.Part.{Part, lot_in, order_in, stand_for}
use Rattle.site_meaning.specs.Trials.{Batch, Cut, uncut, live, touch, Lost, Outcome, played, after_cycles, fails_in, has_fails, in_first, pieces, of_exec, tried, execs_of, more_in, batches_of, cycles_in, ended, blamed, before_order, by_plan, comes_first, is_hit, behind_cycle, lost_at, reached, touched, with_cut, trial}
use Rattle.site_meaning.proofs.AllLemmas.{All-take}

-- ---- the fails of a cycle

-- a fail at one of so many signals, at which what was seen doesn't meet what was wanted
abbrev pub IsUnmet : ℕ → Fail → Type 0
IsUnmet signals fail = (fail.signal < signals) × (is_met fail.want fail.seen ≡ false)

-- a look's fail is at the look's signal, and of an entry that doesn't meet it
look_fails : (signals signal : ℕ) → signal < signals → (look : Look) (inside : List (ℕ × Entry)) (later : List (ℕ × Fail))
    → AllByRecursion (λ (fail : ℕ × Fail). IsUnmet signals fail.1) later
    → AllByRecursion (λ (fail : ℕ × Fail). IsUnmet signals fail.1)
    (cons_option (option_map (λ entry. (entry.0, fail_at signal look entry.1))
    (find (λ entry. not (meets signal look entry)) inside)) later)
look_fails signals signal low look [] later all = all
look_fails signals signal low look (entry ∷ inside) later all =
    cond_both (not (meets signal look entry)) (Some entry) (find (λ other. not (meets signal look other)) inside)
    (λ (found : Option (ℕ × Entry)). AllByRecursion (λ (fail : ℕ × Fail). IsUnmet signals fail.1)
    (cons_option (option_map (λ other. (other.0, fail_at signal look other.1)) found) later))
    (λ unmet. ((low, not_true (meets signal look entry) unmet), all)) (λ _. look_fails signals signal low look inside later all)
  where
    not_true : (b : Bool) → not b ≡ true → b ≡ false
    not_true false e = refl
    not_true true e = absurd (false≢true e)

-- so are those of all looks at it
signal_fails : (signals signal : ℕ) → signal < signals → (looks : List Extent)
    → AllByRecursion (λ (fail : ℕ × Fail). IsUnmet signals fail.1) (filter_map (fail_of signal) looks)
signal_fails signals signal low [] = tt
signal_fails signals signal low (x ∷ looks) =
    look_fails signals signal low x.look x.inside (filter_map (fail_of signal) looks) (signal_fails signals signal low looks)

-- what is so of all is so of those at a place
all_at_place : (P : Fail → Type 0) (place : ℕ) (xs : List (ℕ × Fail)) → AllByRecursion (λ (fail : ℕ × Fail). P fail.1) xs
    → AllByRecursion P (at_place place xs)
all_at_place P place [] all = tt
all_at_place P place (x ∷ xs) all =
    cond_both (eqb x.0 place) (x ∷ filter (λ fail. eqb fail.0 place) xs) (filter (λ fail. eqb fail.0 place) xs)
    (λ (l : List (ℕ × Fail)). AllByRecursion P (map (λ (fail : ℕ × Fail). fail.1) l))
    (λ _. (all.0, all_at_place P place xs all.1)) (λ _. all_at_place P place xs all.1)

-- the fails at a place of a signal that is one of so many
place_fails : (signals place signal : ℕ) (entries : List Entry) → signal < signals
    → AllByRecursion (IsUnmet signals) (at_place place (fails_of signal entries))
place_fails signals place signal entries low =
    all_at_place (IsUnmet signals) place (fails_of signal entries)
    (signal_fails signals signal low (extents signal (enumerate_from 0 entries)))

-- the fails of entries are at signals that are bound
fails_known : (bound : List Bool) (entries : List Entry)
    → AllByRecursion (IsUnmet (length bound)) (fails bound entries)
unfolding fails
fails_known bound entries =
    all_flat (IsUnmet (length bound)) at (range_with_len 0 (length entries))
    (all_of_any (λ (place : ℕ). AllByRecursion (IsUnmet (length bound)) (at place)) (range_with_len 0 (length entries))
    (λ place. all_flat (IsUnmet (length bound)) (λ (signal : ℕ). at_place place (fails_of signal entries)) (bound_signals bound)
    (all_from (λ (signal : ℕ). signal < length bound)
    (λ (signal : ℕ). AllByRecursion (IsUnmet (length bound)) (at_place place (fails_of signal entries)))
    (λ signal low. place_fails (length bound) place signal entries low) (bound_signals bound) low_signals)))
  where
    at : ℕ → List Fail
    at place = flat_map (λ signal. at_place place (fails_of signal entries)) (bound_signals bound)

    low_signals : AllByRecursion (λ (signal : ℕ). signal < length bound) (bound_signals bound)
    low_signals =
        subst (λ (n : ℕ). AllByRecursion (λ (signal : ℕ). signal < n) (bound_signals bound)) (zero-add (length bound))
        (bound_from-below 0 bound)

-- ---- cycles that are played

-- fails are at signals of a die
abbrev pub AreKnown : Device → List Fail → Type 0
AreKnown device fails = AllByRecursion (IsUnmet (length device.binds)) fails

-- the fails of entries of a die
entries_known : (device : Device) (entries : List Entry) → AreKnown device (fails (bound_of device) entries)
entries_known device entries =
    subst (λ (n : ℕ). AllByRecursion (IsUnmet n) (fails (bound_of device) entries))
    (length-map-range_with_len (is_bound device) 0 (length device.binds)) (fails_known (bound_of device) entries)

-- the fails of a cycle, and those before each of its moments, are at signals of the die
record IsKnownCycle (device : Device) (cycle : PlayedCycle) : Type 0 where
  pub fails_are : AreKnown device cycle.fails
  pub moments_are : AllByRecursion (λ (moment : PlayedMoment). AreKnown device moment.earlier) cycle.moments

-- the fails before each moment that is played
moments_known : (device : Device) (whose : Whose) (along : Along) (before : List Entry) (moments : List Moment)
    → AllByRecursion (λ (moment : PlayedMoment). AreKnown device moment.earlier) (moments_played device whose along before moments)
unfolding moments_played
moments_known device whose along before [] = tt
moments_known device whose along before (moment ∷ later) = (
  entries_known device before,
  moments_known device whose (after_moment device along moment)
      (before ++ entry_of device whose moment (after_moment device along moment).die ∷ []) later,
)

-- those of a cycle that is played
played_cycle_known : (stand : Stand) (exec : ℕ) (going : Going) (cycle : Cycle)
    → IsKnownCycle stand.device (played_cycle stand exec going cycle)
played_cycle_known stand exec going cycle =
    let whose = whose_next exec going cycle in
    let moments = moments_in stand going.time cycle in
    record {
      fails_are = entries_known stand.device (entries_in stand.device whose (along_of going) moments);
      moments_are = moments_known stand.device whose (along_of going) [] moments;
    }

-- and of cycles that are played one after another
played_known : (stand : Stand) (exec : ℕ) (going : Going) (cycles : List Cycle)
    → AllByRecursion (IsKnownCycle stand.device) (played stand exec going cycles)
unfolding played
played_known stand exec going [] = tt
played_known stand exec going (cycle ∷ cycles) =
    (played_cycle_known stand exec going cycle, played_known stand exec (after_cycle stand going cycle) cycles)

-- ---- the batches of a try

-- what is so of an item and in each piece is so in each piece with the item in front
all_in_first : {X : Type 0} (P : X → Type 0) (x : X) (parts : List (List X)) → P x → AllByRecursion (AllByRecursion P) parts
    → AllByRecursion (AllByRecursion P) (in_first x parts)
all_in_first P x [] here all = ((here, tt), tt)
all_in_first P x (part ∷ later) here all = ((here, all.0), all.1)

-- what is so of all is so in each piece
all_pieces : {X : Type 0} (P : X → Type 0) (more left : ℕ) (xs : List X) → AllByRecursion P xs
    → AllByRecursion (AllByRecursion P) (pieces more left xs)
unfolding pieces
all_pieces P more left [] all = tt
all_pieces P more zero (x ∷ xs) all = ((all.0, tt), all_pieces P more more xs all.1)
all_pieces P more (suc left) (x ∷ xs) all =
    all_in_first P x (pieces more left xs) all.0 (all_pieces P more left xs all.1)

-- the cycles of a batch are known
abbrev IsKnownBatch : Device → Batch → Type 0
IsKnownBatch device batch = AllByRecursion (IsKnownCycle device) batch.cycles

-- the batches of one executive
exec_known : (stand : Stand) (more exec : ℕ) (going : Going) (cycles : List Cycle)
    → AllByRecursion (IsKnownBatch stand.device) (of_exec exec (pieces more more (played stand exec going cycles)))
exec_known stand more exec going cycles =
    all_mapped (IsKnownBatch stand.device) (λ (part : List PlayedCycle). record { exec = exec; cycles = part })
    (pieces more more (played stand exec going cycles))
    (all_pieces (IsKnownCycle stand.device) more more (played stand exec going cycles) (played_known stand exec going cycles))

-- the batches of executives, up to the first one with a fail
tried_known : (stand : Stand) (more exec : ℕ) (going : Going) (execs : List (List Cycle))
    → AllByRecursion (IsKnownBatch stand.device) (tried stand more exec going execs)
unfolding tried
tried_known stand more exec going [] = tt
tried_known stand more exec going (cycles ∷ later) =
    all_append (IsKnownBatch stand.device) (of_exec exec (pieces more more (played stand exec going cycles)))
    (cond (has_fails (played stand exec going cycles)) [] rest) (exec_known stand more exec going cycles)
    (cond_both (has_fails (played stand exec going cycles)) [] rest (AllByRecursion (IsKnownBatch stand.device)) (λ _. tt)
    (λ _. tried_known stand more (exec + 1) (after_cycles stand going cycles) later))
  where
    rest : List Batch
    rest = tried stand more (exec + 1) (after_cycles stand going cycles) later

-- the device of a die in a try
abbrev pub device_in : Part → ℕ → ℕ → Device
device_in part die number = (stand_for part die number).device

-- the batches of a try that nothing cuts short
batches_known : (part : Part) (die number : ℕ)
    → AllByRecursion (IsKnownBatch (device_in part die number)) (batches_of part die number)
unfolding batches_of
batches_known part die number =
    tried_known (stand_for part die number) (more_in part) 0 (starting (device_in part die number)) (execs_of part.code)

-- ---- what comes of a try

-- the cycles of batches
cycles_known : (device : Device) (batches : List Batch) → AllByRecursion (IsKnownBatch device) batches
    → AllByRecursion (IsKnownCycle device) (cycles_in batches)
unfolding cycles_in
cycles_known device batches all = all_flat (IsKnownCycle device) (λ (batch : Batch). batch.cycles) batches all

-- the fails of a try that ended behind batches
ended_known : (device : Device) (batches : List Batch) → AllByRecursion (IsKnownBatch device) batches
    → AreKnown device (fails_in (cycles_in batches))
unfolding fails_in
ended_known device batches all =
    all_flat (IsUnmet (length device.binds)) (λ (cycle : PlayedCycle). cycle.fails) (cycles_in batches)
    (all_from (IsKnownCycle device) (λ (cycle : PlayedCycle). AreKnown device cycle.fails) (λ cycle known. known.fails_are)
    (cycles_in batches) (cycles_known device batches all))

-- those of a try that no contact or live stop cut short
by_plan_known : (device : Device) (order : Option ℕ) (batches : List Batch) → AllByRecursion (IsKnownBatch device) batches
    → AreKnown device (by_plan order batches).fails
by_plan_known device None batches all = ended_known device batches all
by_plan_known device (Some batch) batches all =
    cond_both (ltb batch (length batches)) (ended (take batch batches) (verdict.Stopped batch by.Plan)) (ended batches (blamed batches))
    (λ (o : Outcome). AreKnown device o.fails)
    (λ _. ended_known device (take batch batches) (All-take (IsKnownBatch device) batch batches all))
    (λ _. ended_known device batches all)

-- the fails before a contact, where one is lost
abbrev IsKnownLost : Device → Option Lost → Type 0
IsKnownLost device None = Unit {0}
IsKnownLost device (Some lost) = AreKnown device lost.fails

-- those before a contact that was lost behind one more cycle
behind_known : (device : Device) (cycle : PlayedCycle) (later : Option Lost) → IsKnownCycle device cycle
    → IsKnownLost device later → IsKnownLost device (behind_cycle cycle later)
behind_known device cycle None known all = tt
behind_known device cycle (Some lost) known all =
    all_append (IsUnmet (length device.binds)) cycle.fails lost.fails known.fails_are all

-- those before a contact that was lost in a cycle or behind it
hit_known : (device : Device) (at : ℕ) (moments : List PlayedMoment) (later : Option Lost)
    → AllByRecursion (λ (moment : PlayedMoment). AreKnown device moment.earlier) moments → IsKnownLost device later
    → IsKnownLost device (lost_at (find (is_hit at) moments) later)
hit_known device at [] later all known = known
hit_known device at (moment ∷ moments) later all known =
    cond_both (is_hit at moment) (Some moment) (find (is_hit at) moments)
    (λ (found : Option PlayedMoment). IsKnownLost device (lost_at found later)) (λ _. all.0)
    (λ _. hit_known device at moments later all.1 known)

-- those before a contact, wherever it was lost
reached_known : (device : Device) (at : ℕ) (cycles : List PlayedCycle) → AllByRecursion (IsKnownCycle device) cycles
    → IsKnownLost device (reached at cycles)
unfolding reached
reached_known device at [] all = tt
reached_known device at (cycle ∷ cycles) all =
    hit_known device at cycle.moments (behind_cycle cycle (reached at cycles)) all.0.moments_are
    (behind_known device cycle (reached at cycles) all.0 (reached_known device at cycles all.1))

-- those of a try that lost its contact, if it did
touched_known : (device : Device) (at : ℕ) (lost : Option Lost) (other : Outcome) → IsKnownLost device lost
    → AreKnown device other.fails → AreKnown device (option_map_or (touched at) lost other).fails
touched_known device at None other known all = all
touched_known device at (Some lost) other known all = known

-- the batches in front of the plan's order
before_order_known : (device : Device) (order : Option ℕ) (batches : List Batch) → AllByRecursion (IsKnownBatch device) batches
    → AllByRecursion (IsKnownBatch device) (before_order order batches)
before_order_known device None batches all = all
before_order_known device (Some batch) batches all = All-take (IsKnownBatch device) batch batches all

-- the fails of a try with a cut
with_cut_known : (device : Device) (order : Option ℕ) (batches : List Batch) (cut : Cut)
    → AllByRecursion (IsKnownBatch device) batches → AreKnown device (with_cut order batches cut).fails
with_cut_known device order batches uncut all = by_plan_known device order batches all
with_cut_known device order batches (live batch number) all =
    cond_both (ltb batch (length batches) && comes_first batch order)
    (ended (take batch batches) (verdict.Stopped batch (by.Desk number))) (by_plan order batches)
    (λ (o : Outcome). AreKnown device o.fails)
    (λ _. ended_known device (take batch batches) (All-take (IsKnownBatch device) batch batches all))
    (λ _. by_plan_known device order batches all)
with_cut_known device order batches (touch at) all =
    let cycles = cycles_in (before_order order batches) in
    cond_both (eqb at 0) (touched 0 (record { cycles = 0; fails = [] }))
    (option_map_or (touched at) (reached at cycles) (by_plan order batches)) (λ (o : Outcome). AreKnown device o.fails) (λ _. tt)
    (λ _. touched_known device at (reached at cycles) (by_plan order batches)
    (reached_known device at cycles (cycles_known device (before_order order batches) (before_order_known device order batches all)))
    (by_plan_known device order batches all))

-- the fails that a try keeps
kept_unmet : (part : Part) (die number : ℕ) (cut : Cut)
    → AllByRecursion (IsUnmet (length (device_in part die number).binds)) (trial part die number cut).kept
unfolding trial
kept_unmet part die number cut =
    let device = device_in part die number in
    let batches = batches_of part die number in
    let order = order_in part die number in
    All-take (IsUnmet (length device.binds)) (lot_in part).keep (with_cut order batches cut).fails
    (with_cut_known device order batches cut (batches_known part die number))

-- they are at its signals
pub known_trial : (part : Part) (die number : ℕ) (cut : Cut)
    → AllByRecursion (λ (f : Fail). f.signal < length (stand_for part die number).device.binds) (trial part die number cut).kept
known_trial part die number cut =
    all_from (IsUnmet (length (device_in part die number).binds))
    (λ (f : Fail). f.signal < length (device_in part die number).binds) (λ f unmet. unmet.0)
    (trial part die number cut).kept (kept_unmet part die number cut)

-- and what was seen doesn't meet what was wanted
pub unmet_trial : (part : Part) (die number : ℕ) (cut : Cut)
    → AllByRecursion (λ (f : Fail). is_met f.want f.seen ≡ false) (trial part die number cut).kept
unmet_trial part die number cut =
    all_from (IsUnmet (length (device_in part die number).binds)) (λ (f : Fail). is_met f.want f.seen ≡ false)
    (λ f unmet. unmet.1) (trial part die number cut).kept (kept_unmet part die number cut)
