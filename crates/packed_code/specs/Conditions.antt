-- What a code may be, part by part.
use Rattle.std.specs.Prelude.{◌≡◌, ℕ, suc, ◌-◌, ◌*◌, ◌^◌, ◌<◌, ◌≤◌, Bool, true, false, List, [], ◌∷◌, ◌++◌, ◌==◌, ◌&&◌, ◌||◌, nat_lt, nat_eq, length, Option, slice_get, slice_index_or, sum_by}
use Rattle.std.specs.List.{list_all, list_any}
use Rattle.std.specs.Option.{option_map_or}
use Rattle.std.specs.Cmp.Lexicographic.{pointwise}
use Rattle.text_bytes.specs.Limits.{longest_name, most_waves, longest_period, most_cells, most_chains, most_signals, most_code_tables, most_row_characters, most_executives}
use Rattle.text_bytes.specs.Bytes.{is_printable, is_character}
use Rattle.tester_types.specs.declared.wave.Event.{Event}
use Rattle.tester_types.specs.declared.wave.Wave.{Wave}
use Rattle.tester_types.specs.declared.wave.Table.{Table}
use Rattle.packed_code.specs.declared.instr.Instr.{Instr}
use Rattle.packed_code.specs.declared.instr.Instr.TheVariants.{Run, Loop, End, Done}
use Rattle.packed_code.specs.Whole.{IsWhole}
use Rattle.packed_code.specs.declared.parts.CodeSignal.{CodeSignal}
use Rattle.packed_code.specs.declared.parts.CodeChain.{CodeChain}
use Rattle.packed_code.specs.RowBytes.{is_place}
use Rattle.packed_code.specs.Program.{Exec, Program}
use Rattle.packed_code.specs.Rows.{is_row_of}

-- each item is as it should be behind those before it
abbrev pub EachBehind : {A : Type 0} → (List A → A → Type 0) → List A → List A → Type 0
EachBehind Fits before [] = Unit {0}
EachBehind Fits before (item ∷ items) = Fits before item × EachBehind Fits (before ++ item ∷ []) items

-- each item is as it should be
abbrev pub Each : {A : Type 0} → (A → Type 0) → List A → Type 0
Each Fits items = EachBehind (λ before item. Fits item) [] items

-- the last item, where there is one
abbrev pub last_of : {A : Type 0} → List A → Option A
last_of items = slice_get items (length items - 1)

-- a text has at most 1024 bytes from 0x20 to 0x7E
pub record IsText (text : List ℕ) : Type 0 where
  pub short : length text ≤ longest_name
  pub printable : list_all is_printable text ≡ true

-- a name is a text that is not empty
pub record IsName (name : List ℕ) : Type 0 where
  pub text : IsText name
  pub some : nat_lt 0 (length name) ≡ true

-- whether a signal has this name
abbrev pub is_named : List ℕ → CodeSignal → Bool
is_named name signal = pointwise nat_eq name signal.name

-- no two signals have one name
pub record IsSignal (before : List CodeSignal) (signal : CodeSignal) : Type 0 where
  pub name : IsName signal.name
  pub fresh : list_any (is_named signal.name) before ≡ false

-- the time of the last event, in femtoseconds
abbrev pub latest : List Event → ℕ
latest events = option_map_or (λ event. event.time) (last_of events) 0

-- times don't fall, and are below the period
pub record IsEvent (period : ℕ) (before : List Event) (event : Event) : Type 0 where
  pub order : latest before ≤ event.time
  pub inside : event.time < period

-- a pair of signal and character stands behind that of a wave, by signal and then by character
abbrev pub is_behind : ℕ → ℕ → Wave → Bool
is_behind signal character wave = nat_lt wave.signal signal || wave.signal == signal && nat_lt wave.character character

-- the waves of a table, at most so many, rise strictly
pub record IsWave (signals period most : ℕ) (before : List Wave) (wave : Wave) : Type 0 where
  pub signal : wave.signal < signals
  pub character : is_character wave.character ≡ true
  pub order : option_map_or (is_behind wave.signal wave.character) (last_of before) true ≡ true
  pub room : length before < most
  pub few : length wave.events ≤ 16
  pub events : EachBehind (IsEvent period) [] wave.events

-- how many waves the tables have
abbrev pub wave_count : List Table → ℕ
wave_count tables = sum_by (λ table. length table.waves) tables

-- a period is 1 to 10 ^ 12 femtoseconds; all tables together have at most 2 ^ 20 waves
pub record IsTable (signals : ℕ) (before : List Table) (table : Table) : Type 0 where
  pub name : IsName table.name
  pub some : 0 < table.period
  pub period : table.period ≤ longest_period
  pub count : length table.waves < 2 ^ 32
  pub waves : EachBehind (IsWave signals table.period (most_waves - wave_count before)) [] table.waves

-- a row has a character or 0 for each signal, and no two rows are equal
pub record IsRow (signals : ℕ) (before : List (List ℕ)) (row : List ℕ) : Type 0 where
  pub places : length row ≡ signals
  pub characters : list_all is_place row ≡ true
  pub fresh : is_row_of before row ≡ false

-- a chain has at most 2 ^ 20 cells
pub record IsChain (signals : ℕ) (chain : CodeChain) : Type 0 where
  pub name : IsName chain.name
  pub out : chain.out < signals
  pub size : chain.length ≤ most_cells
  pub count : length chain.cells ≤ most_cells
  pub cells : Each IsName chain.cells

-- whether a signal has a wave for a character
abbrev pub has_wave : List Wave → ℕ → ℕ → Bool
has_wave waves signal character = list_any (λ wave. wave.signal == signal && wave.character == character) waves

-- whether each character of a row, from this signal on, has a wave
abbrev pub has_waves : List Wave → ℕ → List ℕ → Bool
has_waves waves signal [] = true
has_waves waves signal (character ∷ characters) =
    (character == 0 || has_wave waves signal character) && has_waves waves (suc signal) characters

-- the waves of a table
abbrev pub waves_of : List Table → ℕ → List Wave
waves_of tables table = option_map_or (λ t. t.waves) (slice_get tables table) []

-- the characters of a row
abbrev pub characters_of : List (List ℕ) → ℕ → List ℕ
characters_of rows row = slice_index_or rows row []

-- the numbers of an instruction fit their fields
abbrev pub IsNarrow : Instr → Type 0
IsNarrow (Run table row mark times) = (table < 2 ^ 16) × (row < 2 ^ 32) × (mark < 2 ^ 32) × (times < 2 ^ 32)
IsNarrow (Loop times) = times < 2 ^ 64
IsNarrow End = Unit {0}
IsNarrow Done = Unit {0}

-- a Run names a table and a row, each character of which has a wave in the table
abbrev pub IsInstr : List Table → List (List ℕ) → Instr → Type 0
IsInstr tables rows (Run table row mark times) =
    (table < length tables) × (row < length rows) × (mark < 2 ^ 32)
    × (has_waves (waves_of tables table) 0 (characters_of rows row) ≡ true)
IsInstr tables rows (Loop times) = Unit {0}
IsInstr tables rows End = Unit {0}
IsInstr tables rows Done = Unit {0}

-- an executive of signals, tables and rows
pub record IsExec (signals : ℕ) (tables : List Table) (rows : List (List ℕ)) (exec : Exec) : Type 0 where
  pub name : IsText exec.name
  pub few_chains : length exec.chains ≤ most_chains
  pub chains : Each (IsChain signals) exec.chains
  pub few_instrs : length exec.instrs ≤ 4194305
  pub instrs : Each (IsInstr tables rows) exec.instrs
  pub whole : IsWhole exec.instrs

-- all conditions on a code
pub record IsProgram (program : Program) : Type 0 where
  pub few_signals : length program.signals ≤ most_signals
  pub signals : EachBehind IsSignal [] program.signals
  pub few_tables : length program.tables ≤ most_code_tables
  pub tables : EachBehind (IsTable (length program.signals)) [] program.tables
  pub count_rows : length program.rows < 2 ^ 32
  pub few_rows : length program.rows * length program.signals ≤ most_row_characters
  pub rows : EachBehind (IsRow (length program.signals)) [] program.rows
  pub some_execs : 0 < length program.execs
  pub few_execs : length program.execs ≤ most_executives
  pub execs : Each (IsExec (length program.signals) program.tables program.rows) program.execs
