-- The events of a row's waves, signal after signal, and what stands at a time among them.
use Rattle.std.proofs.Common.{◌≡◌, ℕ, zero, suc, ◌+◌, ◌^◌, ◌<◌, ℤ, pos, ◌+ℤ◌, Bool, true, false, cond, eqb, List, [], ◌∷◌, ◌++◌, length, take, get_or, map, reverse, Option, Some, None, refl, sym, ap, subst, ◌∙◌, arith, suc-le-suc, zero-le, add-zero, zero-add}
use Rattle.std.proofs.lemmas.Int.{ints}
use Rattle.std.proofs.lemmas.Grind.{flat_map-append}
use Rattle.std.proofs.lemmas.List.{append-nil}
use Rattle.std.proofs.lemmas.List.Sums.{AllPass-from_list_all}
use Rattle.std.proofs.lemmas.Bool.{and_parts, eqb-true, cond_both}
use Rattle.std.proofs.lemmas.Option.{IfSome_then}
use Rattle.std.specs.List.{All, find, enumerate_from, flat_map, slice_get, slice_index}
use Rattle.std.specs.Option.{IfSome, option_map_or}
use Rattle.std.specs.Int.{w64, FitsUnsigned}
use Rattle.std.specs.Int.RustNames.{int_le, int_lt}
use Rattle.tester_types.specs.Waves.{is_wave}
use Rattle.tester_types.specs.declared.wave.Event.{Event}
use Rattle.tester_types.specs.declared.wave.Wave.{Wave}
use Rattle.tester_types.specs.declared.wave.Table.{Table}
use Rattle.text_bytes.proofs.ListLemmas.{suc-plus, plus-suc}
use Rattle.edge_gen.specs.declared.dated.Dated.{Dated}
use Rattle.edge_gen.specs.Signals.{wave_of, events_of, moved, skew_of, signals_of, stays_inside, FitSkews}
use Rattle.edge_gen.specs.Step.{ArePlaces, Fits, events_at, dated, dated_at, dated_in}

-- an event of a signal
abbrev pub tied : ℕ → Event → Dated
tied signal event = record { time = event.time; signal = signal; act = event.act }

-- the events of a signal
abbrev pub dated_of : ℕ × List Event → List Dated
dated_of signal = map (tied signal.0) signal.1

found-passes : {X : Type 0} (test : X → Bool) (x : X) (rest : Option X) (b : Bool) → test x ≡ b
    → IfSome rest (λ y. test y ≡ true)
    → IfSome (cond b (Some x) rest) (λ y. test y ≡ true)
found-passes test x rest true is later = is
found-passes test x rest false is later = later

pub find-passes : {X : Type 0} (test : X → Bool) (xs : List X)
    → IfSome (find test xs) (λ x. test x ≡ true)
find-passes test [] = tt
find-passes test (x ∷ xs) = found-passes test x (find test xs) (test x) refl (find-passes test xs)

-- the wave of a signal is of it
pub wave_of-signal : (waves : List Wave) (signal character : ℕ)
    → IfSome (wave_of waves signal character) (λ wave. wave.signal ≡ signal)
wave_of-signal waves signal character =
    let found = find (is_wave signal character) (reverse waves) in
    let passes = find-passes (is_wave signal character) (reverse waves) in
    let own = IfSome_then found passes (λ wave is. eqb-true wave.signal signal (and_parts _ _ is).0) in
    cond_both (eqb character 0) None found (λ o. IfSome o (λ wave. wave.signal ≡ signal)) (λ _. tt) (λ _. own)

-- an event that is dated with a skew is one that was moved
dated-moved : (signal : ℕ) (skew : ℤ) (events : List Event)
    → map (dated signal skew) events ≡ dated_of (signal, map (moved skew) events)
dated-moved signal skew [] = refl
dated-moved signal skew (event ∷ events) =
    ap (λ l. dated signal skew event ∷ l) (dated-moved signal skew events)

dated-own : (found : Option Wave) (signal : ℕ) (skew : ℤ) → IfSome found (λ wave. wave.signal ≡ signal)
    → option_map_or (λ wave. map (dated wave.signal skew) wave.events) found []
    ≡ dated_of (signal, map (moved skew) (option_map_or (λ wave. wave.events) found []))
dated-own None signal skew own = refl
dated-own (Some wave) signal skew own =
    ap (λ s. map (dated s skew) wave.events) own ∙ dated-moved signal skew wave.events

-- the events at the place of a signal's wave are the signal's
dated_at-signal : (waves : List Wave) (skew : ℤ) (signal character place : ℕ)
    → slice_get waves place ≡ wave_of waves signal character
    → dated_at waves skew place ≡ dated_of (signal, map (moved skew) (events_of waves signal character))
dated_at-signal waves skew signal character place is =
    ap (λ found. option_map_or (λ wave. map (dated wave.signal skew) wave.events) found []) is
    ∙ dated-own (wave_of waves signal character) signal skew (wave_of-signal waves signal character)

-- those of all signals, from number n on
dated_in-from : (waves : List Wave) (skews : List ℤ) (n : ℕ) (row places : List ℕ) → length places ≡ length row
    → ((k : ℕ) → k < length row → slice_get waves (slice_index places k) ≡ wave_of waves (n + k) (slice_index row k))
    → dated_in waves skews (enumerate_from n places)
    ≡ flat_map dated_of
    (map (λ place. (place.0, map (moved (skew_of skews place.0)) (events_of waves place.0 place.1))) (enumerate_from n row))
dated_in-from waves skews n [] [] long each = refl
dated_in-from waves skews n [] (place ∷ places) long each = absurd (omega (arith, long))
dated_in-from waves skews n (character ∷ row) [] long each = absurd (omega (arith, long))
dated_in-from waves skews n (character ∷ row) (place ∷ places) long each =
    let here = each zero (suc-le-suc zero-le) ∙ ap (λ s. wave_of waves s character) (add-zero n) in
    let after = λ (k : ℕ) (lt : k < length row). each (suc k) (suc-le-suc lt)
    ∙ ap (λ s. wave_of waves s (slice_index row k)) (sym (plus-suc n k)) in
    let skew = skew_of skews n in
    ap (λ l. l ++ dated_in waves skews (enumerate_from (n + 1) places)) (dated_at-signal waves skew n character place here)
    ∙ ap (λ l. dated_of (n, map (moved skew) (events_of waves n character)) ++ l)
    (dated_in-from waves skews (n + 1) row places (omega (arith, long)) after)

pub dated_in-places : (table : Table) (row places : List ℕ) (skews : List ℤ)
    → ArePlaces table.waves row places
    → dated_in table.waves skews (enumerate_from 0 places) ≡ flat_map dated_of (signals_of table row skews)
dated_in-places table row places skews are =
    dated_in-from table.waves skews 0 row places are.long
    (λ k lt. are.each k lt ∙ ap (λ s. wave_of table.waves s (slice_index row k)) (sym (zero-add k)))

enumerate_from-more : (n : ℕ) (xs : List ℕ) (k d : ℕ) → k < length xs
    → enumerate_from n (take (k + 1) xs) ≡ enumerate_from n (take k xs) ++ (n + k, get_or xs k d) ∷ []
enumerate_from-more n [] k d within = absurd (omega (arith, within))
enumerate_from-more n (x ∷ xs) zero d within = ap (λ m. (m, x) ∷ []) (sym (add-zero n))
enumerate_from-more n (x ∷ xs) (suc k) d within =
    ap (λ i. enumerate_from n (take i (x ∷ xs))) (sym (suc-plus (suc k)))
    ∙ ap (λ i. (n, x) ∷ enumerate_from (n + 1) (take i xs)) (suc-plus k)
    ∙ ap (λ l. (n, x) ∷ l) (enumerate_from-more (n + 1) xs k d (omega (arith, within)))
    ∙ ap (λ m. (n, x) ∷ (enumerate_from (n + 1) (take k xs) ++ (m, get_or xs k d) ∷ [])) (plus-suc n k)

-- one more place
pub dated_in-more : (waves : List Wave) (skews : List ℤ) (places : List ℕ) (k d : ℕ) → k < length places
    → dated_in waves skews (enumerate_from 0 (take (k + 1) places))
    ≡ dated_in waves skews (enumerate_from 0 (take k places)) ++ dated_at waves (skew_of skews k) (get_or places k d)
dated_in-more waves skews places k d within =
    let place = get_or places k d in
    let before = enumerate_from 0 (take k places) in
    ap (dated_in waves skews) (enumerate_from-more 0 places k d within)
    ∙ flat_map-append (λ signal. dated_at waves (skew_of skews signal.0) signal.1) before ((0 + k, place) ∷ [])
    ∙ ap (λ l. dated_in waves skews before ++ l) (append-nil (dated_at waves (skew_of skews (0 + k)) place))
    ∙ ap (λ m. dated_in waves skews before ++ dated_at waves (skew_of skews m) place) (zero-add k)

-- a time that stays inside the cycle is still a number of 64 bits
numbered : (period : ℕ) (skew : ℤ) (time : ℕ) → period < 2 ^ 64 → stays_inside period skew time ≡ true
    → FitsUnsigned w64 (pos time +ℤ skew)
numbered period skew time small is =
    let moved = pos time +ℤ skew in
    let parts = and_parts (int_le (pos 0) moved) (int_lt moved (pos period)) is in
    (grind (arith, ints, parts.0), grind (arith, ints, parts.1))

-- the events of a wave that its signal's skew keeps inside the cycle are numbers of 64 bits
pub skews_fit : (table : Table) (row places : List ℕ) (skews : List ℤ) → table.period < 2 ^ 64
    → ArePlaces table.waves row places → FitSkews table row skews
    → (signal : ℕ) → signal < length places
    → All (Fits (skew_of skews signal)) (events_at table.waves (slice_index places signal))
skews_fit table row places skews small are fit signal within =
    let here : signal < length row = omega (arith, are.long) in
    let skew = skew_of skews signal in
    let events = events_of table.waves signal (slice_index row signal) in
    let inside = AllPass-from_list_all (λ event. stays_inside table.period skew event.time) events (fit.inside signal here) in
    subst (All (Fits skew)) (ap (λ found. option_map_or (λ wave. wave.events) found []) (sym (are.each signal here)))
    (λ k d lt. numbered table.period skew (get_or events k d).time small (inside k d lt))
