-- The first fault of an executive's tables (IEEE 1450-1999, clause 18).
use Rattle.std.specs.Prelude.{ℕ, suc, ◌+◌, ◌==◌, ◌&&◌, Bool, false, not, ℤ, pos, int_le, int_lt, List, [], ◌∷◌, Option, Some, None, Result, Ok, Err, length, nat_le, sum_by, if◌then◌else◌}
use Rattle.std.specs.List.{list_any, enumerate_from}
use Rattle.text_bytes.specs.Limits.{most_waves, longest_period}
use Rattle.stil_ast.specs.Data.Places.{Place}
use Rattle.stil_ast.specs.Data.Texts.{upwards}
use Rattle.stil_ast.specs.Faults.Found.{fault_at, on_line, unless, refuse_if, or_else, first_in}
use Rattle.stil_ast.specs.Meaning.Signals.{Names}
use Rattle.stil_ast.specs.Meaning.Members.{reference_kind}
use Rattle.stil_ast.specs.Faults.SignalFaults.{kind_fault}
use Rattle.stil_ast.specs.Meaning.Times.{Met, Times, time_at}
use Rattle.stil_ast.specs.Meaning.Tables.{table_of, leads_into_cycle, Waveform, own_waveforms, waveforms, waveform_of, period_text, wave_count}
use Rattle.stil_ast.specs.declared.name.Quoted.{Quoted}
use Rattle.stil_ast.specs.declared.name.Named.{Named}
use Rattle.stil_ast.specs.declared.name.SigRef.{SigRef}
use Rattle.stil_ast.specs.declared.name.SigRef.TheVariants.{Name, Group}
use Rattle.stil_ast.specs.declared.timing.EventDecl.{EventDecl}
use Rattle.stil_ast.specs.declared.timing.WaveDecl.{WaveDecl}
use Rattle.stil_ast.specs.declared.timing.SignalWaves.{SignalWaves}
use Rattle.stil_ast.specs.declared.timing.TableDecl.{TableDecl}
use Rattle.stil_ast.specs.declared.fault.StilFault.{StilFault}
use Rattle.stil_ast.specs.declared.fault.StilKind.TheVariants.{UnknownName, Cyclic, NoPeriod, OutOfRange, EventOutside, EventOrder, TooLarge}

-- what the faults of an executive's tables are judged with: how texts are evaluated, the variables' values, the
-- signals and groups, the place of the Timing block, and its tables
pub record Timed (V : Type 0) : Type 0 where
  pub times : Times V
  pub vars : List ℕ → Result V Met
  pub names : Names
  pub place : Place
  pub tables : List TableDecl

-- a table that is inherited: unknown, or leading into a cycle, whether or not the heir is part of it
abbrev pub inherit_found : Place → List TableDecl → Option ℕ → Option StilFault
inherit_found p tables None = Some (fault_at p UnknownName)
inherit_found p tables (Some k) = refuse_if (leads_into_cycle tables k) (fault_at p Cyclic) None

-- an InheritWaveformTable statement
abbrev pub inherit_fault : Place → List TableDecl → Named → Option StilFault
inherit_fault p tables i = inherit_found (on_line p i.line) tables (table_of tables i.name)

-- a fault, or what a time is judged by
abbrev pub with_time : Result ℤ StilFault → (ℤ → Option StilFault) → Option StilFault
with_time (Err fault) rest = Some fault
with_time (Ok time) rest = rest time

-- a period, and what is judged by it
abbrev pub with_period : {V : Type 0} → Timed V → ℕ → Option Quoted → (ℤ → Option StilFault)
    → Option StilFault
with_period t line None rest = Some (fault_at (on_line t.place line) NoPeriod)
with_period t line (Some q) rest =
    with_time (time_at t.times t.vars t.place q) (λ period.
    unless (int_le (pos 1) period && int_le period (pos longest_period))
    (fault_at (on_line t.place q.line) OutOfRange) (rest period))

-- the events of a waveform, behind one at `before`
abbrev pub events_fault : {V : Type 0} → Timed V → ℤ → ℤ → List EventDecl → Option StilFault
events_fault t period before [] = None
events_fault t period before (e ∷ events) =
    with_time (time_at t.times t.vars t.place e.time) (λ time.
    unless (int_le (pos 0) time && int_lt time period) (fault_at (on_line t.place e.time.line) EventOutside)
    (unless (int_le before time) (fault_at (on_line t.place e.time.line) EventOrder)
    (events_fault t period time events)))

-- a reference has its own line only where it is a text
abbrev pub line_of : SigRef → ℕ → ℕ
line_of (Name r) line = line
line_of (Group q) line = q.line

-- a signal in Waveforms: its reference, and then its events
abbrev pub signal_fault : {V : Type 0} → Timed V → ℤ → SignalWaves → Option StilFault
signal_fault t period s =
    or_else (kind_fault (on_line t.place (line_of s.reference s.line)) (reference_kind t.names s.reference))
    (first_in (λ (w : WaveDecl). events_fault t period (pos 0) w.events) s.waves)

-- whether it is that waveform
abbrev pub is_waveform : Waveform → Option Waveform → Bool
is_waveform w None = false
is_waveform w (Some v) = v.table == w.table && v.number == w.number

-- whether a waveform still stands among others for some signal and character
abbrev pub stands : List Waveform → Waveform → Bool
stands all w =
    list_any (λ signal. list_any (λ character. is_waveform w (waveform_of all signal character)) w.characters) w.signals

-- an inherited event that isn't below the period; one whose text has a fault is left to its own table
abbrev pub late_at : Place → ℤ → Result ℤ StilFault → Option StilFault
late_at p period (Err fault) = None
late_at p period (Ok time) = unless (int_lt time period) (fault_at p EventOutside) None

-- the same for an event
abbrev pub late_event : {V : Type 0} → Timed V → ℤ → EventDecl → Option StilFault
late_event t period e = late_at (on_line t.place e.time.line) period (time_at t.times t.vars t.place e.time)

-- the same for a waveform that is inherited and still stands
abbrev pub late_waveform : {V : Type 0} → Timed V → ℤ → ℕ → List Waveform → Waveform → Option StilFault
late_waveform t period table all w =
    first_in (late_event t period) (if not (w.table == table) && stands all w then w.events else [])

-- the first inherited event in text order that isn't below the heir's period
abbrev pub inherited_fault : {V : Type 0} → Timed V → ℤ → ℕ → Option StilFault
inherited_fault t period table =
    first_in (λ (other : ℕ × TableDecl).
    first_in (late_waveform t period table (waveforms t.names t.tables table)) (own_waveforms t.names other.0 other.1))
    (enumerate_from 0 t.tables)

-- how many waves the first tables of an executive have, so many of them
abbrev pub waves_of_first : Names → List TableDecl → ℕ → ℕ
waves_of_first names tables count =
    sum_by (λ table. wave_count (waveforms names tables table) (length names.signals)) (upwards 0 count)

-- a table by its number, where the executives before have so many waves
abbrev pub table_fault : {V : Type 0} → Timed V → ℕ → ℕ × TableDecl → Option StilFault
table_fault t before d =
    or_else (first_in (inherit_fault t.place t.tables) d.1.inherits)
    (with_period t d.1.line (period_text t.tables d.0) (λ period.
    or_else (first_in (signal_fault t period) d.1.waveforms)
    (or_else (inherited_fault t period d.0)
    (unless (nat_le (before + waves_of_first t.names t.tables (suc d.0)) most_waves)
    (fault_at (on_line t.place d.1.line) TooLarge) None))))

-- the first fault of an executive's tables, in text order
abbrev pub tables_fault : {V : Type 0} → Timed V → ℕ → Option StilFault
tables_fault t before = first_in (table_fault t before) (enumerate_from 0 t.tables)
