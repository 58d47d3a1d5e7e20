-- Waveform tables: what each signal does for each character (IEEE 1450-1999, clause 18).
use Rattle.std.specs.Prelude.{ℕ, zero, suc, Bool, true, ◌==◌, ◌&&◌, ℤ, nat_abs, List, [], ◌∷◌, ◌++◌, Option, Some, None, Result, Ok, Err, length, map, flat_map, filter_map, find, reverse, position, slice_get, sum_by, count_by, is_some, if◌then◌else◌}
use Rattle.std.specs.List.{list_any, enumerate_from, position_or_len}
use Rattle.stil_ast.specs.Data.Places.{Place}
use Rattle.stil_ast.specs.Data.Texts.{same, upwards}
use Rattle.stil_ast.specs.Meaning.Signals.{Names}
use Rattle.stil_ast.specs.Meaning.Members.{members}
use Rattle.stil_ast.specs.Meaning.Times.{Met, Times, time_at}
use Rattle.stil_ast.specs.declared.name.Quoted.{Quoted}
use Rattle.stil_ast.specs.declared.name.Named.{Named}
use Rattle.stil_ast.specs.declared.timing.EventDecl.{EventDecl}
use Rattle.stil_ast.specs.declared.timing.WaveDecl.{WaveDecl}
use Rattle.stil_ast.specs.declared.timing.SignalWaves.{SignalWaves}
use Rattle.stil_ast.specs.declared.timing.TableDecl.{TableDecl}
use Rattle.stil_ast.specs.declared.timing.TimingBlock.{TimingBlock}
use Rattle.stil_ast.specs.declared.fault.StilFault.{StilFault}
use Rattle.tester_types.specs.declared.wave.Act.{Act}
use Rattle.tester_types.specs.declared.wave.Event.{Event}
use Rattle.tester_types.specs.declared.wave.Wave.{Wave}
use Rattle.tester_types.specs.declared.wave.Table.{Table}

-- the tables of all Timing blocks of one name, in text order
abbrev pub tables_named : List TimingBlock → List ℕ → List TableDecl
tables_named timings name =
    flat_map (λ (t : TimingBlock). if same t.name name then t.tables else []) timings

-- the number of the table of this name
abbrev pub table_of : List TableDecl → List ℕ → Option ℕ
table_of tables name = position (λ t. same t.name name) tables

-- a waveform: the number of the table in whose text it stands, its number there, the signals and the characters that
-- it is for, and its events
pub record Waveform : Type 0 where
  pub table : ℕ
  pub number : ℕ
  pub signals : List ℕ
  pub characters : List ℕ
  pub events : List EventDecl

-- a table's own waveforms in text order, not numbered yet
abbrev pub unnumbered : Names → ℕ → TableDecl → List Waveform
unnumbered names table t =
    flat_map (λ (s : SignalWaves). map (λ (w : WaveDecl). record {
      table = table;
      number = 0;
      signals = members names s.reference;
      characters = w.characters;
      events = w.events;
    }) s.waves) t.waveforms

-- a waveform with its number
abbrev pub numbered : ℕ × Waveform → Waveform
numbered p =
    record { table = p.1.table; number = p.0; signals = p.1.signals; characters = p.1.characters; events = p.1.events }

-- a table's own waveforms in text order
abbrev pub own_waveforms : Names → ℕ → TableDecl → List Waveform
own_waveforms names table t = map numbered (enumerate_from 0 (unnumbered names table t))

-- the tables that a table inherits, in text order
abbrev pub inherited_by : List TableDecl → Option TableDecl → List ℕ
inherited_by tables None = []
inherited_by tables (Some t) = filter_map (λ (i : Named). table_of tables i.name) t.inherits

-- the same for a table's number
abbrev pub inherited : List TableDecl → ℕ → List ℕ
inherited tables table = inherited_by tables (slice_get tables table)

-- whether one can go from a table to one that it inherits, and on from there, so often
abbrev pub goes_on : List TableDecl → ℕ → ℕ → Bool
goes_on tables zero table = true
goes_on tables (suc steps) table = list_any (goes_on tables steps) (inherited tables table)

-- A table leads into a cycle where one can go on as often as there are tables.
abbrev pub leads_into_cycle : List TableDecl → ℕ → Bool
leads_into_cycle tables table = goes_on tables (length tables) table

-- a table behind those that are put in first, so deep
abbrev pub put_in : List TableDecl → ℕ → ℕ → List ℕ
put_in tables zero table = table ∷ []
put_in tables (suc depth) table = flat_map (put_in tables depth) (inherited tables table) ++ (table ∷ [])

-- The tables of which a table is made, in the order in which they are put in: those that it inherits in text order,
-- each behind its own, and then itself. Where no cycle is met none is deeper than there are tables.
abbrev pub lineage : List TableDecl → ℕ → List ℕ
lineage tables table = put_in tables (length tables) table

-- the own waveforms of a table that may be missing
abbrev pub own_of : Names → ℕ → Option TableDecl → List Waveform
own_of names table None = []
own_of names table (Some t) = own_waveforms names table t

-- A table's waveforms: those of the tables that it inherits are put in first, then its own.
abbrev pub waveforms : Names → List TableDecl → ℕ → List Waveform
waveforms names tables table =
    flat_map (λ (k : ℕ). own_of names k (slice_get tables k)) (lineage tables table)

-- whether a waveform is for this signal and character
abbrev pub defines : ℕ → ℕ → Waveform → Bool
defines signal character w = list_any (λ s. s == signal) w.signals && list_any (λ c. c == character) w.characters

-- the waveform of a signal and a character: the last one counts
abbrev pub waveform_of : List Waveform → ℕ → ℕ → Option Waveform
waveform_of all signal character = find (defines signal character) (reverse all)

-- the act of an event for a character: one act is for all characters, else there is one for each
abbrev pub act_of : List ℕ → ℕ → List Act → Option Act
act_of characters character [] = None
act_of characters character (act ∷ []) = Some act
act_of characters character (act ∷ more ∷ acts) =
    slice_get (act ∷ more ∷ acts) (position_or_len (λ c. c == character) characters)

-- an event with its time, where its text has one
abbrev pub timed_act : Result ℤ StilFault → Option Act → Option Event
timed_act (Ok time) (Some act) = Some (record { time = nat_abs time; act = act })
timed_act _ _ = None

-- an event for a character
abbrev pub event_of : {V : Type 0} → Times V → (List ℕ → Result V Met) → Place → List ℕ → ℕ → EventDecl
    → Option Event
event_of times vars p characters character e =
    timed_act (time_at times vars p e.time) (act_of characters character e.acts)

-- the events of a waveform for one of its characters, in written order
abbrev pub events_of : {V : Type 0} → Times V → (List ℕ → Result V Met) → Place → ℕ → Waveform → List Event
events_of times vars p character w = filter_map (event_of times vars p w.characters character) w.events

-- the last one that is there
abbrev pub later : Option Quoted → Option Quoted → Option Quoted
later first None = first
later first (Some last) = Some last

-- the last period that is there
abbrev pub last_of : List (Option Quoted) → Option Quoted
last_of [] = None
last_of (q ∷ qs) = later q (last_of qs)

-- the own period of a table that may be missing
abbrev pub own_period : Option TableDecl → Option Quoted
own_period None = None
own_period (Some t) = t.period

-- A table's period: its own, else that of the last of the tables that are put in.
abbrev pub period_text : List TableDecl → ℕ → Option Quoted
period_text tables table = last_of (map (λ (k : ℕ). own_period (slice_get tables k)) (lineage tables table))

-- waveform characters, letters and digits, in the order of their codes
abbrev pub every_character : List ℕ
every_character = upwards 48 10 ++ (upwards 65 26 ++ upwards 97 26)

-- a waveform as a wave
abbrev pub wave_with : {V : Type 0} → Times V → (List ℕ → Result V Met) → Place → ℕ → ℕ
    → Option Waveform → Option Wave
wave_with times vars p signal character None = None
wave_with times vars p signal character (Some w) =
    Some (record { signal = signal; character = character; events = events_of times vars p character w })

-- what a signal does in a cycle in which it has this character
abbrev pub wave_of : {V : Type 0} → Times V → (List ℕ → Result V Met) → Place → List Waveform → ℕ → ℕ
    → Option Wave
wave_of times vars p all signal character =
    wave_with times vars p signal character (waveform_of all signal character)

-- all waves of a table, by signal and then by character
abbrev pub waves_of : {V : Type 0} → Times V → (List ℕ → Result V Met) → Place → List Waveform → ℕ
    → List Wave
waves_of times vars p all signals =
    flat_map (λ signal. filter_map (λ character. wave_of times vars p all signal character) every_character)
    (upwards 0 signals)

-- a time, or 0 where its text has none
abbrev pub time_or_zero : Result ℤ StilFault → ℕ
time_or_zero (Ok time) = nat_abs time
time_or_zero (Err fault) = 0

-- the period that a text gives
abbrev pub period_of : {V : Type 0} → Times V → (List ℕ → Result V Met) → Place → Option Quoted → ℕ
period_of times vars p None = 0
period_of times vars p (Some q) = time_or_zero (time_at times vars p q)

-- a table with its period and its waves
abbrev pub made_table : {V : Type 0} → Times V → (List ℕ → Result V Met) → Names → Place
    → List TableDecl → ℕ × TableDecl → Table
made_table times vars names p tables t = record {
  name = t.1.name;
  period = period_of times vars p (period_text tables t.0);
  waves = waves_of times vars p (waveforms names tables t.0) (length names.signals);
}

-- all tables, by their numbers
abbrev pub made_tables : {V : Type 0} → Times V → (List ℕ → Result V Met) → Names → Place
    → List TableDecl → List Table
made_tables times vars names p tables = map (made_table times vars names p tables) (enumerate_from 0 tables)

-- how many signals and characters a table has a waveform for
abbrev pub wave_count : List Waveform → ℕ → ℕ
wave_count all signals =
    sum_by (λ signal. count_by (λ character. is_some (waveform_of all signal character)) every_character)
    (upwards 0 signals)
