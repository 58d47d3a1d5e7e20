-- What the code answers where there is a fault.
use Rattle.std.specs.Prelude.{◌≡◌, ℕ, suc, ◌+◌, nat_le, ℤ, pos, int_le, int_lt, ◌&&◌, List, [], ◌∷◌, length, map, Result, Ok, Err, Option, None, Some}
use Rattle.text_bytes.specs.Limits.{most_waves}
use Rattle.stil_ast.specs.Faults.TableFaults.{Timed, events_fault, line_of, signal_fault, with_period, inherited_fault, late_waveform, waves_of_first}
use Rattle.stil_ast.specs.Data.Texts.{upwards}
use Rattle.stil_ast.specs.Meaning.Tables.{Waveform, waveforms, wave_count, period_text, period_of}
use Rattle.stil_ast.specs.declared.timing.TableDecl.{TableDecl}
use Rattle.stil_ast.specs.Faults.SignalFaults.{kind_fault}
use Rattle.stil_ast.specs.Meaning.Members.{reference_kind}
use Rattle.stil_ast.specs.declared.fault.StilKind.{StilKind}
use Rattle.stil_ast.specs.declared.fault.StilKind.TheVariants.{EventOutside, EventOrder, TooLarge}
use Rattle.stil_ast.specs.declared.timing.SignalWaves.{SignalWaves}
use Rattle.wave_tables.specs.declared.times.ReadEvent.{ReadEvent}
use Rattle.wave_tables.specs.declared.times.ReadWave.{ReadWave}
use Rattle.stil_ast.specs.declared.timing.WaveDecl.{WaveDecl}
use Rattle.expr_text.specs.Ratio.{Ratio}
use Rattle.stil_ast.specs.Data.Places.{Place}
use Rattle.stil_ast.specs.Faults.Found.{fault_at, on_line, unless, or_else, first_in}
use Rattle.stil_ast.specs.declared.fault.StilFault.{StilFault}
use Rattle.answers.specs.declared.short.Short.{Short}
use Rattle.answers.specs.declared.short.Short.TheVariants.{Fault}
use Rattle.wave_tables.specs.declared.trouble.LineFault.{LineFault}
use Rattle.wave_tables.specs.declared.judge.Judged.{Judged}
use Rattle.stil_ast.specs.declared.name.Quoted.{Quoted}

-- want of memory, or a fault at a line
abbrev pub Trouble : Type 0
Trouble = Short LineFault

-- the fault is that which is answered, unless memory ran out
abbrev pub IsAt : Place → Option StilFault → Trouble → Type 0
IsAt place fault trouble =
    (at : LineFault) → trouble ≡ Fault at → fault ≡ Some (fault_at (on_line place at.line) at.kind)

-- a check passes where Timing blocks at this place have no fault, and else answers the first one, or want of memory
abbrev pub PassesAt : Place → Option StilFault → Result Unit Trouble → Type 0
PassesAt place fault (Ok done) = fault ≡ None
PassesAt place fault (Err trouble) = IsAt place fault trouble

-- the same of a pass that gives a value
abbrev pub FindsAt : {A : Type 0} → Place → Option StilFault → (A → Type 0) → Result A Trouble → Type 0
FindsAt place fault Wanted (Ok x) = (fault ≡ None) × Wanted x
FindsAt place fault Wanted (Err trouble) = IsAt place fault trouble

-- a check goes on: the fault is that of the rest, judged by the value that it gives; else it answers the first fault,
-- or want of memory
abbrev pub GoesOnAt : {A : Type 0} → Place → Option StilFault → (A → Option StilFault) → Result A Trouble → Type 0
GoesOnAt place fault rest (Ok x) = fault ≡ rest x
GoesOnAt place fault rest (Err trouble) = IsAt place fault trouble

-- the fault of a waveform's events
abbrev pub wave_fault : Timed Ratio → ℤ → WaveDecl → Option StilFault
wave_fault t period w = events_fault t period (pos 0) w.events

-- a fault of this kind at this place, or what a time is judged by
abbrev pub with_kind : Place → Result ℤ StilKind → (ℤ → Option StilFault) → Option StilFault
with_kind place (Err kind) rest = Some (fault_at place kind)
with_kind place (Ok time) rest = rest time

-- the fault of a waveform's events by their times as they were read, behind one at `before`
abbrev pub events_read : Place → ℤ → ℤ → List ReadEvent → Option StilFault
events_read place period before [] = None
events_read place period before (e ∷ events) =
    with_kind (on_line place e.time.line) e.time.time (λ time.
    unless (int_le (pos 0) time && int_lt time period) (fault_at (on_line place e.time.line) EventOutside)
    (unless (int_le before time) (fault_at (on_line place e.time.line) EventOrder)
    (events_read place period time events)))

-- the same of all its events
abbrev pub read_fault : Place → ℤ → ReadWave → Option StilFault
read_fault place period w = events_read place period (pos 0) w.events

-- the fault of a reference in Waveforms
abbrev pub reference_fault : Timed Ratio → SignalWaves → Option StilFault
reference_fault t s = kind_fault (on_line t.place (line_of s.reference s.line)) (reference_kind t.names s.reference)

-- a time that isn't below a period, where it has no fault of its own
abbrev pub late_time : Place → ℤ → Result ℤ StilKind → Option StilFault
late_time place period (Err kind) = None
late_time place period (Ok time) = unless (int_lt time period) (fault_at place EventOutside) None

-- the same of an event
abbrev pub late_read : Place → ℤ → ReadEvent → Option StilFault
late_read place period e = late_time (on_line place e.time.line) period e.time.time

-- the first event of a waveform that isn't below the period of a table, where it inherits it and it still stands
abbrev pub late_one : Timed Ratio → ℤ → ℕ → Waveform → Option StilFault
late_one t period table w = late_waveform t period table (waveforms t.names t.tables table) w

-- the same of waveforms
abbrev pub late_in : Timed Ratio → ℤ → ℕ → List Waveform → Option StilFault
late_in t period table list = first_in (late_one t period table) list

-- too many waves of all tables so far, so many of them in the executives before
abbrev pub count_fault : Timed Ratio → ℕ → ℕ × TableDecl → Option StilFault
count_fault t before d =
    unless (nat_le (before + waves_of_first t.names t.tables (suc d.0)) most_waves)
    (fault_at (on_line t.place d.1.line) TooLarge) None

-- the fault of a table behind those of its period
abbrev pub behind_period : Timed Ratio → ℕ → ℕ × TableDecl → ℤ → Option StilFault
behind_period t before d period =
    or_else (first_in (signal_fault t period) d.1.waveforms)
    (or_else (inherited_fault t period d.0) (count_fault t before d))

-- the fault of a table behind those of the names that it inherits
abbrev pub behind_names : Timed Ratio → ℕ → ℕ × TableDecl → Option StilFault
behind_names t before d = with_period t d.1.line (period_text t.tables d.0) (behind_period t before d)

-- the period of the table of this number
abbrev pub period_at : Timed Ratio → ℕ → ℕ
period_at t number = period_of t.times t.vars t.place (period_text t.tables number)

-- the periods of all tables in text order
abbrev pub periods_in : Timed Ratio → List ℕ
periods_in t = map (period_at t) (upwards 0 (length t.tables))

-- how many waves there are with those of a table, where so many stand before it
abbrev pub with_waves : Timed Ratio → ℕ → ℕ → ℕ
with_waves t before number = before + wave_count (waveforms t.names t.tables number) (length t.names.signals)

-- a pass that finds a value, or the first fault, however many of the waves before a table are of the executives before
abbrev pub JudgesAt : {A : Type 0} → Timed Ratio → ℕ → ℕ → (ℕ → Option StilFault) → (A → Type 0)
    → Result A Trouble → Type 0
JudgesAt t before number fault Wanted (Ok x) =
    ((base : ℕ) → before ≡ base + waves_of_first t.names t.tables number → fault base ≡ None) × Wanted x
JudgesAt t before number fault Wanted (Err trouble) =
    (base : ℕ) → before ≡ base + waves_of_first t.names t.tables number → IsAt t.place (fault base) trouble

-- the period of a text is found, and the fault is that of the rest, judged by it; else the fault is that of the period
abbrev pub GivesPeriod : Timed Ratio → ℕ → Option Quoted → (ℤ → Option StilFault) → Result ℕ Trouble → Type 0
GivesPeriod t line text rest (Ok time) =
    (with_period t line text rest ≡ rest (pos time)) × (time ≡ period_of t.times t.vars t.place text)
GivesPeriod t line text rest (Err trouble) = IsAt t.place (with_period t line text rest) trouble

-- a table's period, and how many waves there are with its own
pub record IsJudged (t : Timed Ratio) (before number : ℕ) (judged : Judged) : Type 0 where
  pub period : judged.period ≡ period_at t number
  pub total : judged.total ≡ with_waves t before number
