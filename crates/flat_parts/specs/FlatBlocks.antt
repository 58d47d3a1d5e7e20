-- The blocks that the flat text of a code says, part by part. Lines are left open: they are those of the text.
use Rattle.std.specs.Prelude.{◌≡◌, ℕ, ◌+◌, ◌==◌, Bool, true, false, List, [], ◌∷◌, ◌++◌, codes, decimal, length, slice_index_or, Some, None}
use Rattle.std.specs.List.{AllZip, filter, range_with_len}
use Rattle.tester_types.specs.declared.wave.Event.{Event}
use Rattle.tester_types.specs.declared.wave.Wave.{Wave}
use Rattle.tester_types.specs.declared.wave.Table.{Table}
use Rattle.packed_code.specs.declared.instr.Instr.TheVariants.{Done}
use Rattle.packed_code.specs.declared.parts.CodeSignal.{CodeSignal}
use Rattle.packed_code.specs.Program.{Program}
use Rattle.packed_code.specs.Conditions.{characters_of}
use Rattle.packed_code.specs.Cycles.{exec_of}
use Rattle.stil_ast.specs.declared.name.SigRef.{SigRef}
use Rattle.stil_ast.specs.declared.name.SigRef.TheVariants as ref
use Rattle.stil_ast.specs.declared.signal.SignalDecl.{SignalDecl}
use Rattle.stil_ast.specs.declared.timing.EventDecl.{EventDecl}
use Rattle.stil_ast.specs.declared.timing.SignalWaves.{SignalWaves}
use Rattle.stil_ast.specs.declared.timing.TableDecl.{TableDecl}
use Rattle.stil_ast.specs.declared.timing.TimingBlock.{TimingBlock}
use Rattle.stil_ast.specs.declared.body.Assignment.{Assignment}
use Rattle.stil_ast.specs.declared.body.Step.TheVariants as step
use Rattle.stil_ast.specs.declared.blocks.BodyDef.{BodyDef}
use Rattle.stil_ast.specs.declared.blocks.DefBlock.{DefBlock}
use Rattle.stil_ast.specs.declared.blocks.Pattern.{Pattern}
use Rattle.stil_ast.specs.declared.blocks.Blocks.{Blocks}
use Rattle.stil_ast.specs.declared.executive.BurstWord.TheVariants as burst
use Rattle.stil_ast.specs.declared.executive.Burst.{Burst}
use Rattle.stil_ast.specs.declared.executive.ExecDecl.{ExecDecl}
use Rattle.stil_ast.specs.Data.Written.{single, no_more}
use Rattle.stil_ast.specs.Meaning.Statements.{a_character}
use Rattle.flat_parts.specs.Order.{is_in, tables_in, table_order, row_order}
use Rattle.flat_parts.specs.FlatText.{name_of, executives}
use Rattle.flat_parts.specs.Nests.{Nest, instrs_in, written_in}

-- ---- names

-- a signal of this name
abbrev pub signal_called : List ℕ → SigRef
signal_called name = ref.Name (record { name = name; range = None })

-- a letter and a number
abbrev pub numbered : List ℕ → ℕ → List ℕ
numbered front number = front ++ decimal number

-- ---- signals

-- a signal is declared
abbrev pub IsSignalDecl : CodeSignal → SignalDecl → Type 0
IsSignalDecl signal d =
    d ≡ record { name = signal.name; range = None; direction = signal.direction; line = d.line }

-- ---- tables

-- a time in femtoseconds, without its quotes
abbrev pub time_text : ℕ → List ℕ
time_text time = decimal time ++ codes "fs"

-- an event
abbrev pub IsEventDecl : Event → EventDecl → Type 0
IsEventDecl event d =
    d ≡ record { time = record { text = time_text event.time; line = d.time.line }; acts = event.act ∷ [] }

-- a wave: its signal, and one waveform of one character
pub record IsSignalWaves (code : Program) (wave : Wave) (d : SignalWaves) : Type 0 where
  pub reference : d.reference ≡ signal_called (name_of code wave.signal)
  pub events : List EventDecl
  pub waves : d.waves ≡ record { characters = wave.character ∷ []; events = events } ∷ []
  pub each : AllZip IsEventDecl wave.events events

-- a table under this number
pub record IsTableDecl (code : Program) (number : ℕ) (table : Table) (d : TableDecl) : Type 0 where
  pub name : d.name ≡ numbered (codes "w") number
  pub period_line : ℕ
  pub period : d.period ≡ Some (record { text = time_text table.period; line = period_line })
  pub inherits : d.inherits ≡ []
  pub waves : AllZip (IsSignalWaves code) table.waves d.waveforms

-- no table
abbrev pub no_table : Table
no_table = record { name = []; period = 0; waves = [] }

-- the table of the code that has this number in the text
abbrev pub table_numbered : Program → ℕ → Table
table_numbered code number = slice_index_or code.tables (slice_index_or (table_order code) number 0) no_table

-- the same under its number
abbrev pub IsNumberedTable : Program → ℕ → TableDecl → Type 0
IsNumberedTable code number d = IsTableDecl code number (table_numbered code number) d

-- the numbers in the text of the tables that the Runs of an executive name, rising
abbrev pub own_numbers : Program → ℕ → List ℕ
own_numbers code exec =
    filter (λ number. is_in (tables_in (exec_of code exec)) (slice_index_or (table_order code) number 0))
    (range_with_len 0 (length (table_order code)))

-- the Timing of an executive
pub record IsTiming (code : Program) (exec : ℕ) (t : TimingBlock) : Type 0 where
  pub name : t.name ≡ numbered (codes "t") exec
  pub tables : AllZip (IsNumberedTable code) (own_numbers code exec) t.tables

-- ---- rows

-- a signal that a row gives a character, and the character
pub record Given : Type 0 where
  pub name : List ℕ
  pub character : ℕ

-- what rows give the signals from this number on
abbrev pub given_from : Program → ℕ → List ℕ → List Given
given_from code signal [] = []
given_from code signal (c ∷ row) =
    given_by (c == 0) (record { name = name_of code signal; character = c }) (given_from code (signal + 1) row)
  where
    given_by : Bool → Given → List Given → List Given
    given_by true g rest = rest
    given_by false g rest = g ∷ rest

-- an assignment of a character
abbrev pub IsGift : Given → Assignment → Type 0
IsGift given d =
    d ≡ record { reference = signal_called given.name; items = a_character given.character ∷ []; line = d.line }

-- the characters of the row that has this number in the text
abbrev pub row_numbered : Program → ℕ → List ℕ
row_numbered code number = characters_of code.rows (slice_index_or (row_order code) number 0)

-- a row: a procedure of one vector
pub record IsRowBody (code : Program) (number : ℕ) (d : BodyDef) : Type 0 where
  pub name : d.name ≡ numbered (codes "r") number
  pub line : ℕ
  pub gifts : List Assignment
  pub body : d.body ≡ single line (step.Vector gifts) no_more
  pub each : AllZip IsGift (given_from code 0 (row_numbered code number)) gifts

-- all rows that Runs name
pub record AreRows (code : Program) (blocks : List DefBlock) : Type 0 where
  pub bodies : List BodyDef
  pub one : blocks ≡ record { name = []; bodies = bodies } ∷ []
  pub each : AllZip (IsRowBody code) (range_with_len 0 (length (row_order code))) bodies

-- ---- patterns, bursts and executives

-- the pattern of an executive
pub record IsPattern (code : Program) (exec : ℕ) (p : Pattern) : Type 0 where
  pub name : p.name ≡ numbered (codes "p") exec
  pub nest : Nest
  pub instrs : (exec_of code exec).instrs ≡ instrs_in nest ++ Done ∷ []
  pub body : p.body ≡ written_in code nest

-- the burst of an executive
pub record IsBurst (exec : ℕ) (b : Burst) : Type 0 where
  pub name : b.name ≡ numbered (codes "b") exec
  pub line : ℕ
  pub items : b.items ≡ record { word = burst.Entry; name = numbered (codes "p") exec; line = line } ∷ []

-- an executive
pub record IsExecDecl (code : Program) (exec : ℕ) (e : ExecDecl) : Type 0 where
  pub name : e.name ≡ (exec_of code exec).name
  pub categories : e.categories ≡ []
  pub selector : e.selector ≡ None
  pub timing_line : ℕ
  pub timing : e.timing ≡ Some (record { name = numbered (codes "t") exec; line = timing_line })
  pub burst : e.burst ≡ record { name = numbered (codes "b") exec; line = e.burst.line }

-- ---- all blocks

-- the blocks of the flat text of a code
pub record AreFlatBlocks (code : Program) (blocks : Blocks) : Type 0 where
  pub signals : AllZip IsSignalDecl code.signals blocks.signals
  pub groups : blocks.groups ≡ []
  pub specs : blocks.specs ≡ []
  pub selectors : blocks.selectors ≡ []
  pub timings : AllZip (IsTiming code) (executives code) blocks.timings
  pub scans : blocks.scans ≡ []
  pub macros : blocks.macros ≡ []
  pub procedures : AreRows code blocks.procedures
  pub patterns : AllZip (IsPattern code) (executives code) blocks.patterns
  pub bursts : AllZip IsBurst (executives code) blocks.bursts
  pub executives : AllZip (IsExecDecl code) (executives code) blocks.executives
