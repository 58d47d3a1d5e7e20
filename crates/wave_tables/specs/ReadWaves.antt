-- How the code holds waveforms: as they are written, with the times of their events.
use Rattle.std.specs.Prelude.{ℤ, List, Result, Ok, Err, map, flat_map}
use Rattle.stil_ast.specs.Meaning.Times.{time_at}
use Rattle.stil_ast.specs.Faults.TableFaults.{Timed}
use Rattle.stil_ast.specs.declared.name.Quoted.{Quoted}
use Rattle.stil_ast.specs.declared.timing.EventDecl.{EventDecl}
use Rattle.stil_ast.specs.declared.timing.WaveDecl.{WaveDecl}
use Rattle.stil_ast.specs.declared.timing.SignalWaves.{SignalWaves}
use Rattle.stil_ast.specs.declared.timing.TableDecl.{TableDecl}
use Rattle.stil_ast.specs.declared.fault.StilFault.{StilFault}
use Rattle.stil_ast.specs.declared.fault.StilKind.{StilKind}
use Rattle.expr_text.specs.Ratio.{Ratio}
use Rattle.wave_tables.specs.declared.times.ReadTime.{ReadTime}
use Rattle.wave_tables.specs.declared.times.ReadEvent.{ReadEvent}
use Rattle.wave_tables.specs.declared.times.ReadWave.{ReadWave}

-- a time, or the kind of what is met
abbrev pub kind_met : Result ℤ StilFault → Result ℤ StilKind
kind_met (Ok time) = Ok time
kind_met (Err fault) = Err fault.kind

-- a text's time
abbrev pub read_time : Timed Ratio → Quoted → ReadTime
read_time t q = record { time = kind_met (time_at t.times t.vars t.place q); line = q.line }

-- an event
abbrev pub read_event : Timed Ratio → EventDecl → ReadEvent
read_event t e = record { time = read_time t e.time; acts = e.acts }

-- a waveform
abbrev pub read_wave : Timed Ratio → WaveDecl → ReadWave
read_wave t w = record { characters = w.characters; events = map (read_event t) w.events }

-- a table's own waveforms
abbrev pub read_waves : Timed Ratio → TableDecl → List ReadWave
read_waves t table = flat_map (λ (s : SignalWaves). map (read_wave t) s.waves) table.waveforms
