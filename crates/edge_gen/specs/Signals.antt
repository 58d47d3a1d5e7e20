-- What each signal does in one cycle: the events of the waveform that the table has for the signal's waveform
-- character (IEEE 1450-1999, WaveformTable), moved by the signal's skew.
use Rattle.std.specs.Prelude.{◌≡◌, ℕ, ◌<◌, ◌==◌, ℤ, pos, ◌+ℤ◌, int_le, int_lt, unsigned_abs, Bool, true, ◌&&◌, if◌then◌else◌, List, [], map, length, replicate, reverse, slice_index, slice_index_or, Option, None}
use Rattle.std.specs.List.{find, list_all, enumerate_from}
use Rattle.std.specs.Option.{option_map_or}
use Rattle.tester_types.specs.Waves.{is_wave}
use Rattle.tester_types.specs.declared.wave.Event.{Event}
use Rattle.tester_types.specs.declared.wave.Wave.{Wave}
use Rattle.tester_types.specs.declared.wave.Table.{Table}

-- the wave of a signal with this character, which is 0 where it has none; of several waves that are listed for the two
-- it is the last, since a later definition replaces an earlier one
abbrev pub wave_of : List Wave → ℕ → ℕ → Option Wave
wave_of waves signal character =
    if character == 0 then None else find (is_wave signal character) (reverse waves)

-- the signal's events in written order: none where it has no wave
abbrev pub events_of : List Wave → ℕ → ℕ → List Event
events_of waves signal character = option_map_or (λ wave. wave.events) (wave_of waves signal character) []

-- a time moved by a skew, in femtoseconds from the cycle's start; it isn't before the start
abbrev pub moved_time : ℤ → ℕ → ℕ
moved_time skew time = unsigned_abs (pos time +ℤ skew)

-- an event moved by a skew
abbrev pub moved : ℤ → Event → Event
moved skew event = record { time = moved_time skew event.time; act = event.act }

-- the skew of a signal, in femtoseconds
abbrev pub skew_of : List ℤ → ℕ → ℤ
skew_of skews signal = slice_index_or skews signal (pos 0)

-- no skew, for so many signals
abbrev pub no_skews : ℕ → List ℤ
no_skews signals = replicate signals (pos 0)

-- the signals of a row in declared order, each with its events, which its skew moves
abbrev pub signals_of : Table → List ℕ → List ℤ → List (ℕ × List Event)
signals_of table row skews =
    map (λ place. (place.0, map (moved (skew_of skews place.0)) (events_of table.waves place.0 place.1)))
    (enumerate_from 0 row)

-- whether a time, moved by a skew, is still inside a cycle of this period
abbrev pub stays_inside : ℕ → ℤ → ℕ → Bool
stays_inside period skew time = int_le (pos 0) (pos time +ℤ skew) && int_lt (pos time +ℤ skew) (pos period)

-- whether each event does
abbrev pub stay_inside : ℕ → ℤ → List Event → Bool
stay_inside period skew events = list_all (λ event. stays_inside period skew event.time) events

-- whether each event of a wave does, where its signal's skew moves it
abbrev pub is_inside : ℕ → List ℤ → Wave → Bool
is_inside period skews wave = stay_inside period (skew_of skews wave.signal) wave.events

-- whether each wave of a table does
abbrev pub keeps_inside : Table → List ℤ → Bool
keeps_inside table skews = list_all (is_inside table.period skews) table.waves

-- each signal of a row has a skew, and each event of its wave, moved by it, stays inside the cycle
pub record FitSkews (table : Table) (row : List ℕ) (skews : List ℤ) : Type 0 where
  pub one_each : length skews ≡ length row
  pub inside : (signal : ℕ) → signal < length row
      → stay_inside table.period (skew_of skews signal) (events_of table.waves signal (slice_index row signal)) ≡ true
