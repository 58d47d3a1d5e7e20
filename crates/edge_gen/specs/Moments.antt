-- The moments of a cycle: the instants at which some signal has an event, in rising order, each with the drives and
-- looks of that instant.
use Rattle.std.specs.Prelude.{◌≡◌, ℕ, ◌+◌, ◌<◌, ◌==◌, ℤ, Bool, nat_lt, if◌then◌else◌, List, [], ◌∷◌, map, filter, Option, Some, None}
use Rattle.std.specs.List.{AllByRecursion, flat_map, filter_map, fold, last_or, list_any}
use Rattle.std.specs.Option.{option_to_list}
use Rattle.tester_types.specs.declared.wave.Push.{Push}
use Rattle.tester_types.specs.declared.wave.Look.{Look}
use Rattle.tester_types.specs.declared.wave.Act.{Act}
use Rattle.tester_types.specs.declared.wave.Act.TheVariants as act
use Rattle.tester_types.specs.declared.wave.Event.{Event}
use Rattle.tester_types.specs.declared.wave.Table.{Table}
use Rattle.tester_types.specs.declared.cycle.Moment.{Moment}
use Rattle.edge_gen.specs.Signals.{signals_of}

-- the drive that an act is, if it is one
abbrev pub push_of : Act → Option Push
push_of (act.Push push) = Some push
push_of (act.Look look) = None

-- the look that an act is, if it is one
abbrev pub look_of : Act → Option Look
look_of (act.Push push) = None
look_of (act.Look look) = Some look

-- what a signal does at a time, in written order
abbrev pub acts_at : ℕ → List Event → List Act
acts_at time events = map (λ event. event.act) (filter (λ event. event.time == time) events)

-- a signal's last drive at a time, if it has one then
abbrev pub drives_of : ℕ → ℕ × List Event → List (ℕ × Push)
drives_of time signal =
    map (λ push. (signal.0, push)) (option_to_list (last_or None (filter_map push_of (acts_at time signal.1))))

-- all looks at a signal at a time, in written order
abbrev pub looks_of : ℕ → ℕ × List Event → List (ℕ × Look)
looks_of time signal = map (λ look. (signal.0, look)) (filter_map look_of (acts_at time signal.1))

-- what stands at a time of the cycle, signals in declared order
abbrev pub moment_at : ℕ → List (ℕ × List Event) → ℕ → Moment
moment_at start signals time = record {
  at = start + time;
  drives = flat_map (drives_of time) signals;
  looks = flat_map (looks_of time) signals;
}

-- the times of all events
abbrev pub times_of : List (ℕ × List Event) → List ℕ
times_of signals = flat_map (λ signal. map (λ event. event.time) signal.1) signals

-- each number is below all that follow
abbrev pub Rises : List ℕ → Type 0
Rises [] = Unit {0}
Rises (n ∷ ns) = AllByRecursion (λ m. n < m) ns × Rises ns

-- whether a number is in the list
abbrev pub is_in : ℕ → List ℕ → Bool
is_in n ns = list_any (λ m. m == n) ns

-- a list has the instants of these times: it rises, and has the same numbers; there is one such list
pub record AreInstants (times list : List ℕ) : Type 0 where
  pub rising : Rises list
  pub same : (time : ℕ) → is_in time list ≡ is_in time times

-- rising instants with one more, which stands once
abbrev pub with_instant : List ℕ → ℕ → List ℕ
with_instant [] time = time ∷ []
with_instant (first ∷ later) time =
    if nat_lt time first then time ∷ first ∷ later
    else (if time == first then first ∷ later else first ∷ with_instant later time)

-- that list
abbrev pub instants : List ℕ → List ℕ
instants times = fold with_instant [] times

-- the moments of the cycle of a table and a row of characters, one a signal, that begins at this start, where each
-- signal's events are moved by its skew
unfoldable pub moments_of : Table → List ℕ → List ℤ → ℕ → List Moment
moments_of table row skews start =
    let signals = signals_of table row skews in
    map (moment_at start signals) (instants (times_of signals))

-- a moment that is so much later
abbrev pub later : ℕ → Moment → Moment
later start moment = record { at = start + moment.at; drives = moment.drives; looks = moment.looks }
