-- The events of waves, from waveforms as the code holds them.
use Rattle.std.specs.Prelude.{ℕ, ℤ, nat_abs, filter_map, slice_get, List, [], Option, Some, None, Result, Ok}
use Rattle.stil_ast.specs.Meaning.Tables.{act_of}
use Rattle.stil_ast.specs.declared.fault.StilKind.{StilKind}
use Rattle.tester_types.specs.declared.wave.Act.{Act}
use Rattle.tester_types.specs.declared.wave.Event.{Event}
use Rattle.tester_types.specs.declared.wave.Wave.{Wave}
use Rattle.wave_tables.specs.declared.source.Source.{Source}
use Rattle.wave_tables.specs.declared.times.ReadEvent.{ReadEvent}
use Rattle.wave_tables.specs.declared.times.ReadWave.{ReadWave}

-- an event with its time, where its text has one
abbrev pub timed_read : Result ℤ StilKind → Option Act → Option Event
timed_read (Ok time) (Some act) = Some (record { time = nat_abs time; act = act })
timed_read _ _ = None

-- an event for a character
abbrev pub event_read : List ℕ → ℕ → ReadEvent → Option Event
event_read characters character e = timed_read e.time.time (act_of characters character e.acts)

-- the waveforms of a table that may be missing
abbrev pub reads_of : Option (List ReadWave) → List ReadWave
reads_of None = []
reads_of (Some reads) = reads

-- the waveform that a source names
abbrev pub read_at : List (List ReadWave) → Source → Option ReadWave
read_at reads s = slice_get (reads_of (slice_get reads s.table)) s.number

-- a waveform as a wave
abbrev pub wave_made : ℕ → ℕ → Option ReadWave → Option Wave
wave_made signal character None = None
wave_made signal character (Some w) =
    Some (record {
      signal = signal;
      character = character;
      events = filter_map (event_read w.characters character) w.events;
    })

-- the wave of a signal and a character, where a waveform counts for them
abbrev pub wave_read : List (List ReadWave) → ℕ → ℕ → Option Source → Option Wave
wave_read reads signal character None = None
wave_read reads signal character (Some s) = wave_made signal character (read_at reads s)
