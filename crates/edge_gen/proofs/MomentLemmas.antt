-- The moment that the events of one time make is the one that the definition puts there.
use Rattle.std.proofs.Common.{◌≡◌, ℕ, ◌+◌, ℤ, Bool, true, false, cond, eqb, List, [], ◌∷◌, ◌++◌, map, filter, Option, Some, None, refl, sym, ap, subst, ◌∙◌, arith, zero-add}
use Rattle.std.proofs.lemmas.List.{append-nil, append_assoc, map-append}
use Rattle.std.proofs.lemmas.Simd.{map-map}
use Rattle.std.proofs.lemmas.List.Sorted.{IsPermutation-map}
use Rattle.std.specs.List.Sorted.{IsPermutation}
use Rattle.std.proofs.lemmas.List.Elements.{filter_map-append, filter-append}
use Rattle.std.proofs.lemmas.List.Sums.{fold-append}
use Rattle.std.specs.List.{cons_option, enumerate_from, flat_map, filter_map, fold, last_or}
use Rattle.std.specs.Option.{option_map}
use Rattle.tester_types.specs.declared.wave.Push.{Push}
use Rattle.tester_types.specs.declared.wave.Look.{Look}
use Rattle.tester_types.specs.declared.wave.Act.{Act}
use Rattle.tester_types.specs.declared.wave.Event.{Event}
use Rattle.tester_types.specs.declared.wave.Table.{Table}
use Rattle.tester_types.specs.declared.cycle.Moment.{Moment}
use Rattle.edge_gen.specs.declared.dated.Dated.{Dated}
use Rattle.edge_gen.specs.Moments.{push_of, look_of, acts_at, drives_of, looks_of, moment_at, times_of, instants, moments_of, later}
use Rattle.edge_gen.specs.Signals.{events_of, moved, skew_of, signals_of}
use Rattle.edge_gen.specs.Step.{ArePlaces, dated_in, at_time, with_drive, look_of_event, moment_of, grouped}
use Rattle.edge_gen.proofs.DriveLemmas.{AreBelow, drive_if, drives-of_signal}
use Rattle.edge_gen.proofs.SignalLemmas.{tied, dated_of, dated_in-places}
use Rattle.edge_gen.proofs.InstantLemmas.{instants-IsPermutation}

-- ---- the events of one signal

-- what an event shows of its act, with its signal
abbrev shown : {X : Type 0} → (Act → Option X) → Dated → Option (ℕ × X)
shown h event = option_map (λ x. (event.signal, x)) (h event.act)

-- the same of a signal's acts
abbrev tagged : {X : Type 0} → ℕ → List X → List (ℕ × X)
tagged signal xs = map (λ x. (signal, x)) xs

shown-one : {X : Type 0} (signal : ℕ) (o : Option X) (xs : List X)
    → cons_option (option_map (λ x. (signal, x)) o) (tagged signal xs) ≡ tagged signal (cons_option o xs)
shown-one signal None xs = refl
shown-one signal (Some x) xs = refl

shown-more : {X : Type 0} (h : Act → Option X) (signal : ℕ) (event : Event) (rest : List Dated) (acts : List Act) (b : Bool)
    → filter_map (shown h) rest ≡ tagged signal (filter_map h acts)
    → filter_map (shown h) (cond b (tied signal event ∷ rest) rest)
    ≡ tagged signal (filter_map h (cond b (event.act ∷ acts) acts))
shown-more h signal event rest acts true later =
    ap (cons_option (shown h (tied signal event))) later
    ∙ shown-one signal (h event.act) (filter_map h acts)
shown-more h signal event rest acts false later = later

acts_at-more : (time : ℕ) (event : Event) (events : List Event)
    → acts_at time (event ∷ events) ≡ cond (eqb event.time time) (event.act ∷ acts_at time events) (acts_at time events)
acts_at-more time event events = by (eqb event.time time)
  where
    by : (b : Bool)
        → map (λ (e : Event). e.act) (cond b (event ∷ filter (λ e. eqb e.time time) events) (filter (λ e. eqb e.time time) events))
        ≡ cond b (event.act ∷ acts_at time events) (acts_at time events)
    by true = refl
    by false = refl

shown-signal : {X : Type 0} (h : Act → Option X) (time signal : ℕ) (events : List Event)
    → filter_map (shown h) (at_time time (map (tied signal) events)) ≡ tagged signal (filter_map h (acts_at time events))
shown-signal h time signal [] = refl
shown-signal h time signal (event ∷ events) =
    shown-more h signal event _ (acts_at time events) (eqb event.time time) (shown-signal h time signal events)
    ∙ ap (λ acts. tagged signal (filter_map h acts)) (sym (acts_at-more time event events))

-- ---- those of all signals

shown-signals : {X : Type 0} (h : Act → Option X) (time : ℕ) (signals : List (ℕ × List Event))
    → filter_map (shown h) (at_time time (flat_map dated_of signals))
    ≡ flat_map (λ signal. tagged signal.0 (filter_map h (acts_at time signal.1))) signals
shown-signals h time [] = refl
shown-signals h time (signal ∷ signals) =
    ap (filter_map (shown h)) (filter-append (λ event. eqb event.time time) (dated_of signal) (flat_map dated_of signals))
    ∙ filter_map-append (shown h) (at_time time (dated_of signal)) (at_time time (flat_map dated_of signals))
    ∙ ap (λ l. l ++ filter_map (shown h) (at_time time (flat_map dated_of signals))) (shown-signal h time signal.0 signal.1)
    ∙ ap (λ l. tagged signal.0 (filter_map h (acts_at time signal.1)) ++ l) (shown-signals h time signals)

-- the signals are numbered from n on
abbrev AreNumbered : ℕ → List (ℕ × List Event) → Type 0
AreNumbered n [] = Unit {0}
AreNumbered n (signal ∷ signals) = (signal.0 ≡ n) × AreNumbered (n + 1) signals

AreNumbered-row : (f : ℕ × ℕ → List Event) (n : ℕ) (row : List ℕ)
    → AreNumbered n (map (λ place. (place.0, f place)) (enumerate_from n row))
AreNumbered-row f n [] = tt
AreNumbered-row f n (character ∷ row) = (refl, AreNumbered-row f (n + 1) row)

AreBelow-more : (n : ℕ) (before : List (ℕ × Push)) (push : Option Push) → AreBelow n before
    → AreBelow (n + 1) (before ++ drive_if n push)
AreBelow-more n [] None below = tt
AreBelow-more n [] (Some push) below = (omega arith, tt)
AreBelow-more n (drive ∷ before) push below =
    (omega (arith, below.0), AreBelow-more n before push below.1)

drives-signals : (time n : ℕ) (before : List (ℕ × Push)) (signals : List (ℕ × List Event))
    → AreBelow n before → AreNumbered n signals
    → fold with_drive before (flat_map (λ signal. tagged signal.0 (filter_map push_of (acts_at time signal.1))) signals)
    ≡ before ++ flat_map (drives_of time) signals
drives-signals time n before [] below numbered = sym (append-nil before)
drives-signals time n before (signal ∷ signals) below numbered =
    let pushes = filter_map push_of (acts_at time signal.1) in
    let later = flat_map (λ s. tagged s.0 (filter_map push_of (acts_at time s.1))) signals in
    let here = drives_of time signal in
    let below_signal = subst (λ s. AreBelow s before) (sym numbered.0) below in
    let below_next =
    subst (λ s. AreBelow (n + 1) (before ++ drive_if s (last_or None pushes))) (sym numbered.0)
    (AreBelow-more n before (last_or None pushes) below) in
    fold-append with_drive before (tagged signal.0 pushes) later
    ∙ ap (λ l. fold with_drive (fold with_drive l (tagged signal.0 pushes)) later) (sym (append-nil before))
    ∙ ap (λ l. fold with_drive l later) (drives-of_signal before signal.0 None pushes below_signal)
    ∙ drives-signals time (n + 1) (before ++ here) signals below_next numbered.1
    ∙ append_assoc before here (flat_map (drives_of time) signals)

moment-at_time : (start time : ℕ) (signals : List (ℕ × List Event)) → AreNumbered 0 signals
    → moment_of (start + time) (at_time time (flat_map dated_of signals)) ≡ moment_at start signals time
moment-at_time start time signals numbered =
    let drives = ap (fold with_drive []) (shown-signals push_of time signals)
    ∙ drives-signals time 0 [] signals tt numbered in
    let looks = shown-signals look_of time signals in
    let moment = λ (ds : List (ℕ × Push)) (ls : List (ℕ × Look)). made (start + time) ds ls in
    ap (λ ds. moment ds (filter_map look_of_event (at_time time (flat_map dated_of signals)))) drives
    ∙ ap (moment (flat_map (drives_of time) signals)) looks
  where
    made : ℕ → List (ℕ × Push) → List (ℕ × Look) → Moment
    made at drives looks = record { at = at; drives = drives; looks = looks }

-- ---- all moments

times-signals : (signals : List (ℕ × List Event))
    → map (λ (event : Dated). event.time) (flat_map dated_of signals) ≡ times_of signals
times-signals [] = refl
times-signals (signal ∷ signals) =
    let time_of = λ (event : Dated). event.time in
    map-append time_of (dated_of signal) (flat_map dated_of signals)
    ∙ ap (λ l. l ++ map time_of (flat_map dated_of signals)) (map-map time_of (tied signal.0) signal.1)
    ∙ ap (λ l. map (λ event. event.time) signal.1 ++ l) (times-signals signals)

map-same : {X Y : Type 0} (f g : X → Y) → ((x : X) → f x ≡ g x) → (xs : List X)
    → map f xs ≡ map g xs
map-same f g same [] = refl
map-same f g same (x ∷ xs) =
    ap (λ y. y ∷ map f xs) (same x) ∙ ap (λ l. g x ∷ l) (map-same f g same xs)

-- the events of a row's waves, moved, sorted by time and gathered, are the moments of the cycle
pub grouped-moments_of : (table : Table) (row places : List ℕ) (skews : List ℤ) (start : ℕ) (events sorted : List Dated)
    → ArePlaces table.waves row places → events ≡ dated_in table.waves skews (enumerate_from 0 places)
    → IsPermutation events sorted → ((time : ℕ) → at_time time sorted ≡ at_time time events)
    → grouped start sorted ≡ moments_of table row skews start
unfolding moments_of
grouped-moments_of table row places skews start events sorted are gathered moved_on stable =
    let signals = signals_of table row skews in
    let time_of = λ (event : Dated). event.time in
    let all : events ≡ flat_map dated_of signals = gathered
    ∙ dated_in-places table row places skews are in
    let numbered = AreNumbered-row (λ place. map (moved (skew_of skews place.0)) (events_of table.waves place.0 place.1)) 0 row in
    let times : instants (map time_of sorted) ≡ instants (times_of signals) =
    sym (instants-IsPermutation _ _ (IsPermutation-map time_of events sorted moved_on))
    ∙ ap (λ l. instants (map time_of l)) all
    ∙ ap instants (times-signals signals) in
    let stands : (time : ℕ) → moment_of (start + time) (at_time time sorted) ≡ moment_at start signals time =
    λ time. ap (moment_of (start + time)) (stable time ∙ ap (at_time time) all)
    ∙ moment-at_time start time signals numbered in
    ap (map (λ time. moment_of (start + time) (at_time time sorted))) times
    ∙ map-same _ (moment_at start signals) stands (instants (times_of signals))

-- a cycle's moments are those of the same cycle dated from 0, each as much later as it begins
pub moments_of-later : (table : Table) (row : List ℕ) (skews : List ℤ) (start : ℕ)
    → moments_of table row skews start ≡ map (later start) (moments_of table row skews 0)
unfolding moments_of
moments_of-later table row skews start =
    let signals = signals_of table row skews in
    map-same (moment_at start signals) (λ time. later start (moment_at 0 signals time)) (λ time. dates signals time) (instants (times_of signals))
    ∙ sym (map-map (later start) (moment_at 0 signals) (instants (times_of signals)))
  where
    dates : (signals : List (ℕ × List Event)) (time : ℕ)
        → moment_at start signals time ≡ later start (moment_at 0 signals time)
    dates signals time =
        ap (λ (at : ℕ). later start (record { at = at; drives = flat_map (drives_of time) signals; looks = flat_map (looks_of time) signals }))
        (sym (zero-add time))
