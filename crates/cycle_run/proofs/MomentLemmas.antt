-- The moments of a schedule: their drives are of the row's signals, which rise, and they stay inside their cycle.
use Rattle.std.proofs.Common.{◌≡◌, ℕ, suc, ◌+◌, ◌<◌, ◌≤◌, ◌^◌, ℤ, pos, negsuc, true, List, [], ◌∷◌, ◌++◌, length, map, Option, Some, None, sym, ap, ◌∙◌, subst, arith, zero-add}
use Rattle.std.specs.Prelude.{All, ◌+ℤ◌, ◌&&◌, int_le, int_lt, unsigned_abs, option_to_list, slice_index, slice_get}
use Rattle.std.specs.List.{AllByRecursion, enumerate_from, filter_map, flat_map, last_or}
use Rattle.std.proofs.lemmas.Bool.{and_parts}
use Rattle.std.proofs.lemmas.Int.{ints}
use Rattle.std.proofs.lemmas.Option.{get_or_from_slice_get}
use Rattle.text_bytes.proofs.ListLemmas.{plus-suc, all_append}
use Rattle.tester_types.specs.declared.wave.Push.{Push}
use Rattle.tester_types.specs.declared.wave.Event.{Event}
use Rattle.tester_types.specs.declared.wave.Wave.{Wave}
use Rattle.tester_types.specs.declared.wave.Table.{Table}
use Rattle.packed_code.specs.Program.{Program}
use Rattle.packed_code.specs.Conditions.{IsProgram, IsRow}
use Rattle.packed_code.proofs.Lists.{behind_at}
use Rattle.edge_gen.specs.Signals.{events_of, moved, skew_of, signals_of, stays_inside, stay_inside, keeps_inside, FitSkews}
use Rattle.edge_gen.proofs.InsideLemmas.{fit_rows}
use Rattle.edge_gen.proofs.InstantLemmas.{All-instants}
use Rattle.edge_gen.specs.Moments.{push_of, acts_at, drives_of, moment_at, instants, times_of, moments_of}
use Rattle.cycle_run.specs.Step.{Rises, IsScheduled, FitCode}
use Rattle.cycle_run.proofs.DriveLemmas.{all_at}

-- ---- the signals of a moment's drives

-- the drives of a row's signals from this number on: they rise, and are of these signals
record Between (from until : ℕ) (drives : List (ℕ × Push)) : Type 0 where
  rises : Rises drives
  above : AllByRecursion (λ given. from ≤ given.0) drives
  below : AllByRecursion (λ given. given.0 < until) drives

all_weaker : (n : ℕ) (drives : List (ℕ × Push)) → AllByRecursion (λ given. n + 1 ≤ given.0) drives
    → AllByRecursion (λ given. n ≤ given.0) drives
all_weaker n [] all = tt
all_weaker n (x ∷ xs) all = (omega (arith, all.0), all_weaker n xs all.1)

all_strict : (n : ℕ) (drives : List (ℕ × Push)) → AllByRecursion (λ given. n + 1 ≤ given.0) drives
    → AllByRecursion (λ given. n < given.0) drives
all_strict n [] all = tt
all_strict n (x ∷ xs) all = (omega (arith, all.0), all_strict n xs all.1)

one_between : (n until : ℕ) (push : Option Push) (later : List (ℕ × Push)) → n < until → Between (n + 1) until later
    → Between n until (map (λ (p : Push). (n, p)) (option_to_list push) ++ later)
one_between n until None later low b = record {
  rises = b.rises;
  above = all_weaker n later b.above;
  below = b.below;
}
one_between n until (Some push) later low b = record {
  rises = (all_strict n later b.above, b.rises);
  above = (omega arith, all_weaker n later b.above);
  below = (low, b.below);
}

-- the events of a signal
abbrev events_from : List Wave → List ℤ → ℕ × ℕ → List Event
events_from waves skews place = map (moved (skew_of skews place.0)) (events_of waves place.0 place.1)

-- the signals of a row, numbered from here on, each with its events
abbrev signals_from : List Wave → List ℤ → ℕ → List ℕ → List (ℕ × List Event)
signals_from waves skews n row = map (λ (place : ℕ × ℕ). (place.0, events_from waves skews place)) (enumerate_from n row)

drives_between : (waves : List Wave) (skews : List ℤ) (time n : ℕ) (row : List ℕ)
    → Between n (n + length row) (flat_map (drives_of time) (signals_from waves skews n row))
drives_between waves skews time n [] = record { rises = tt; above = tt; below = tt }
drives_between waves skews time n (character ∷ row) =
    let later = flat_map (drives_of time) (signals_from waves skews (n + 1) row) in
    one_between n (n + length (character ∷ row)) (last_or None (filter_map push_of (acts_at time (events_from waves skews (n, character))))) later
    (omega arith)
    (subst (λ (m : ℕ). Between (n + 1) m later) (plus-suc n (length row)) (drives_between waves skews time (n + 1) row))

-- ---- when events are

-- a number that isn't below 0 and is below a period
inside_number : (x : ℤ) (period : ℕ) → (int_le (pos 0) x && int_lt x (pos period)) ≡ true → unsigned_abs x < period
inside_number (pos n) period is = grind (arith, ints, (and_parts (int_le (pos 0) (pos n)) (int_lt (pos n) (pos period)) is).1)
inside_number (negsuc n) period is = absurd (let low = (and_parts (int_le (pos 0) (negsuc n)) (int_lt (negsuc n) (pos period)) is).0 in cc low)

events_inside : (period : ℕ) (skew : ℤ) (events : List Event) → stay_inside period skew events ≡ true
    → AllByRecursion (λ time. time < period) (map (λ event. event.time) (map (moved skew) events))
events_inside period skew [] inside = tt
events_inside period skew (event ∷ events) inside =
    let parts = and_parts (stays_inside period skew event.time) (stay_inside period skew events) inside in
    (inside_number (pos event.time +ℤ skew) period parts.0, events_inside period skew events parts.1)

-- all that is so at each place is so of the numbered items
all_numbered : (P : ℕ × ℕ → Type 0) (n : ℕ) (row : List ℕ) → ((k : ℕ) → k < length row → P (n + k, slice_index row k))
    → AllByRecursion P (enumerate_from n row)
all_numbered P n [] each = tt
all_numbered P n (character ∷ row) each = (
  subst (λ (m : ℕ). P (m, character)) (none n) (each 0 (omega arith)),
  all_numbered P (n + 1) row (λ k within. subst (λ (m : ℕ). P (m, slice_index row k)) (sym (plus-suc n k)) (each (suc k) (omega (arith, within)))),
)
  where
    none : (m : ℕ) → m + 0 ≡ m
    none m = omega arith

times_inside : (period : ℕ) (waves : List Wave) (skews : List ℤ) (places : List (ℕ × ℕ))
    → AllByRecursion (λ place. stay_inside period (skew_of skews place.0) (events_of waves place.0 place.1) ≡ true) places
    → AllByRecursion (λ time. time < period) (times_of (map (λ (place : ℕ × ℕ). (place.0, events_from waves skews place)) places))
times_inside period waves skews [] all = tt
times_inside period waves skews (place ∷ places) all =
    let later = map (λ (p : ℕ × ℕ). (p.0, events_from waves skews p)) places in
    all_append (λ time. time < period) (map (λ event. event.time) (events_from waves skews place)) (times_of later)
    (events_inside period (skew_of skews place.0) (events_of waves place.0 place.1) all.0)
    (times_inside period waves skews places all.1)

-- the events of a row's signals stay inside the cycle
abbrev pub StayInside : Table → List ℕ → List ℤ → Type 0
StayInside table row skews =
    (signal : ℕ) → signal < length row
    → stay_inside table.period (skew_of skews signal) (events_of table.waves signal (slice_index row signal)) ≡ true

-- all instants of a cycle are inside it
pub instants_inside : (table : Table) (row : List ℕ) (skews : List ℤ) → StayInside table row skews
    → AllByRecursion (λ time. time < table.period) (instants (times_of (signals_of table row skews)))
instants_inside table row skews inside =
    All-instants (λ time. time < table.period) [] (times_of (signals_of table row skews)) tt
    (times_inside table.period table.waves skews (enumerate_from 0 row)
    (all_numbered (λ (place : ℕ × ℕ). stay_inside table.period (skew_of skews place.0) (events_of table.waves place.0 place.1) ≡ true) 0 row
    (λ k within. subst (λ (m : ℕ). stay_inside table.period (skew_of skews m) (events_of table.waves m (slice_index row k)) ≡ true)
    (sym (zero-add k)) (inside k within))))

-- ---- the moments of a schedule

moment_fits : (table : Table) (row : List ℕ) (skews : List ℤ) (signals time : ℕ) → length row ≡ signals
    → table.period ≤ 1000000000000 → time < table.period
    → IsScheduled signals (moment_at 0 (signals_of table row skews) time)
moment_fits table row skews signals time long short within =
    let b = drives_between table.waves skews time 0 row in
    let drives = flat_map (drives_of time) (signals_from table.waves skews 0 row) in
    record {
      of = record {
        rising = b.rises;
        below = all_at (λ (given : ℕ × Push). given.0 < signals) drives
            (subst (λ (m : ℕ). AllByRecursion (λ (given : ℕ × Push). given.0 < m) drives) (zero-add (length row) ∙ long) b.below);
      };
      early = early_enough time table.period within short;
    }
  where
    early_enough : (t period : ℕ) → t < period → period ≤ 1000000000000 → 0 + t < 2 ^ 64
    early_enough t period low few = omega (arith, low, few)

all_mapped : {X Y : Type 0} (Q : X → Type 0) (P : Y → Type 0) (f : X → Y) (xs : List X) → AllByRecursion Q xs
    → ((x : X) → Q x → P (f x)) → AllByRecursion P (map f xs)
all_mapped Q P f [] all each = tt
all_mapped Q P f (x ∷ xs) all each = (each x all.0, all_mapped Q P f xs all.1 each)

-- each is a moment of the row's signals
pub moments_fit : (table : Table) (row : List ℕ) (skews : List ℤ) (signals : ℕ) → length row ≡ signals
    → table.period ≤ 1000000000000 → FitSkews table row skews
    → All (IsScheduled signals) (moments_of table row skews 0)
unfolding moments_of
moments_fit table row skews signals long short fit =
    let at = signals_of table row skews in
    all_at (IsScheduled signals) (map (moment_at 0 at) (instants (times_of at)))
    (all_mapped (λ time. time < table.period) (IsScheduled signals) (moment_at 0 at) (instants (times_of at))
    (instants_inside table row skews fit.inside)
    (λ time within. moment_fits table row skews signals time long short within))

-- ---- the rows and tables of a code

pub row_long : (code : Program) (number : ℕ) (row : List ℕ) → IsProgram code → number < length code.rows
    → slice_get code.rows number ≡ Some row → length row ≡ length code.signals
row_long code number row program within found =
    let fits = behind_at (IsRow (length code.signals)) [] code.rows number row program.rows within in
    let is = get_or_from_slice_get code.rows number row row found in
    ap length (sym is) ∙ fits.places

-- skews that fit a code fit each of its tables
pub moved_fit : (code : Program) (skews : List ℤ) (number : ℕ) (table : Table) (row : List ℕ) → FitCode code skews
    → number < length code.tables → slice_get code.tables number ≡ Some table → length row ≡ length code.signals
    → FitSkews table row skews
moved_fit code skews number table row fit within found long =
    let is = get_or_from_slice_get code.tables number table table found in
    fit_rows table row skews (fit.one_each ∙ sym long)
    (subst (λ (t : Table). keeps_inside t skews ≡ true) is (fit.inside number table within))
