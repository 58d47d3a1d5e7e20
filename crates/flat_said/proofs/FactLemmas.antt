-- What is known of a code that is needed to say its flat text.
use Rattle.std.proofs.Common.{◌≡◌, ℕ, zero, suc, ◌<◌, ◌≤◌, true, not, List, [], ◌∷◌, length, get_or, refl, arith}
use Rattle.std.specs.Prelude.{◌==◌}
use Rattle.std.specs.List.{AllByRecursion, list_all, flat_map, slice_get, range_with_len}
use Rattle.std.specs.Option.{option_map_or}
use Rattle.std.proofs.lemmas.Bool.{and_parts}
use Rattle.text_bytes.specs.Bytes.{is_printable}
use Rattle.text_bytes.proofs.ListLemmas.{all_from, all_filter}
use Rattle.tester_types.specs.declared.wave.Table.{Table}
use Rattle.packed_code.specs.declared.instr.Instr.{Instr}
use Rattle.packed_code.specs.declared.instr.Instr.TheVariants.{Run, Loop, End, Done}
use Rattle.stil_lex.specs.Bytes.{double_quote}
use Rattle.packed_code.specs.declared.parts.CodeSignal.{CodeSignal}
use Rattle.packed_code.specs.RowBytes.{is_place}
use Rattle.packed_code.specs.Program.{Exec, Program}
use Rattle.packed_code.specs.Cycles.{exec_of}
use Rattle.packed_code.specs.Conditions.{IsSignal, IsWave, IsTable, IsRow, IsInstr, IsExec, IsProgram}
use Rattle.packed_code.proofs.Lists.{all_at, all_flat, all_passing}
use Rattle.packed_code.proofs.Lists.{behind_all}
use Rattle.flat_parts.specs.Order.{run_table, tables_in, firsts, table_order, row_order}
use Rattle.flat_parts.specs.FlatText.{name_of, is_plain, has_plain_names}
use Rattle.flat_parts.specs.FlatBlocks.{no_table, table_numbered}
use Rattle.flat_said.proofs.ListLemmas.{all_or, all_both, all_range}
use Rattle.flat_said.proofs.SaysLemmas.{IsQuotable}
use Rattle.flat_said.proofs.WordLemmas.{name_is}
use Rattle.flat_said.proofs.TimingLemmas.{IsSayableWave, IsSayableTable}
use Rattle.flat_said.proofs.RowLemmas.{IsSayableRow}

-- ---- names

-- the tests of the names
plain_parts : (code : Program) → has_plain_names code ≡ true
    → (list_all (λ signal. is_plain signal.name) code.signals ≡ true) × (list_all (λ exec. is_plain exec.name) code.execs ≡ true)
plain_parts code plain =
    and_parts (list_all (λ signal. is_plain signal.name) code.signals) (list_all (λ exec. is_plain exec.name) code.execs) plain

-- the names of signals
pub signals_are : (code : Program) → IsProgram code → has_plain_names code ≡ true
    → AllByRecursion (λ signal. IsQuotable double_quote signal.name) code.signals
signals_are code is plain =
    all_both (λ signal. list_all is_printable signal.name ≡ true) (λ signal. is_plain signal.name ≡ true) _
    (λ signal printable apart. name_is signal.name apart printable) code.signals
    (behind_all IsSignal (λ signal. list_all is_printable signal.name ≡ true) (λ before signal s. s.name.text.printable) [] code.signals
    is.signals)
    (all_passing (λ signal. is_plain signal.name) code.signals (plain_parts code plain).0)

-- no name
nothing_quotable : IsQuotable double_quote []
nothing_quotable = record { plain = refl; each = refl }

named_at : (signals : List CodeSignal) (signal : ℕ) → AllByRecursion (λ s. IsQuotable double_quote s.name) signals
    → IsQuotable double_quote (option_map_or (λ s. s.name) (slice_get signals signal) [])
named_at [] signal all = nothing_quotable
named_at (s ∷ signals) zero all = all.0
named_at (s ∷ signals) (suc signal) all = named_at signals signal all.1

-- the name of a signal by its number
pub names_are : (code : Program) → IsProgram code → has_plain_names code ≡ true → (signal : ℕ)
    → IsQuotable double_quote (name_of code signal)
names_are code is plain signal = named_at code.signals signal (signals_are code is plain)

-- the name of an executive by its number
pub execs_are : (code : Program) → IsProgram code → has_plain_names code ≡ true → (exec : ℕ)
    → IsQuotable double_quote (exec_of code exec).name
execs_are code is plain exec =
    all_or (λ (e : Exec). IsQuotable double_quote e.name) code.execs exec _
    (all_both (λ (e : Exec). list_all is_printable e.name ≡ true) (λ (e : Exec). is_plain e.name ≡ true) _
    (λ e printable apart. name_is e.name apart printable) code.execs
    (behind_all (λ before e. IsExec (length code.signals) code.tables code.rows e) (λ (e : Exec). list_all is_printable e.name ≡ true)
    (λ before e x. x.name.printable) [] code.execs is.execs)
    (all_passing (λ (e : Exec). is_plain e.name) code.execs (plain_parts code plain).1))
    nothing_quotable

-- ---- tables

-- a table of a code
table_is : (code : Program) → ((signal : ℕ) → IsQuotable double_quote (name_of code signal)) → (before : List Table) (table : Table)
    → IsTable (length code.signals) before table → IsSayableTable code table
table_is code names before table is =
    behind_all (IsWave (length code.signals) table.period _) (IsSayableWave code)
    (λ earlier wave w. record { name = names wave.signal; character = w.character }) [] table.waves is.waves

-- the table of a number
pub table_sayable : (code : Program) → IsProgram code → ((signal : ℕ) → IsQuotable double_quote (name_of code signal)) → (number : ℕ)
    → IsSayableTable code (table_numbered code number)
table_sayable code is names number =
    all_or (IsSayableTable code) code.tables (get_or (table_order code) number 0) no_table
    (behind_all (IsTable (length code.signals)) (IsSayableTable code) (table_is code names) [] code.tables is.tables) tt

-- ---- the tables that Runs name

-- what holds of all numbers holds where each of them stands once
pub all_firsts : (P : ℕ → Type 0) (numbers : List ℕ) → AllByRecursion P numbers → AllByRecursion P (firsts numbers)
unfolding firsts
all_firsts P [] all = tt
all_firsts P (number ∷ numbers) all =
    (all.0, all_filter P (λ n. not (n == number)) (firsts numbers) (all_firsts P numbers all.1))

-- the table of an instruction
instr_table : (tables : List Table) (rows : List (List ℕ)) (instr : Instr) → IsInstr tables rows instr
    → AllByRecursion (λ table. table < length tables) (run_table instr)
instr_table tables rows (Run table row mark times) is = (is.0, tt)
instr_table tables rows (Loop times) is = tt
instr_table tables rows End is = tt
instr_table tables rows Done is = tt

-- the tables of an executive
exec_tables : (code : Program) (exec : Exec) → IsExec (length code.signals) code.tables code.rows exec
    → AllByRecursion (λ table. table < length code.tables) (tables_in exec)
exec_tables code exec is =
    all_flat (λ table. table < length code.tables) run_table exec.instrs
    (behind_all (λ before instr. IsInstr code.tables code.rows instr)
    (λ instr. AllByRecursion (λ table. table < length code.tables) (run_table instr))
    (λ before instr i. instr_table code.tables code.rows instr i) [] exec.instrs is.instrs)

-- all tables that the text has, are there
pub order_there : (code : Program) → IsProgram code → AllByRecursion (λ table. table < length code.tables) (table_order code)
order_there code is =
    all_firsts (λ table. table < length code.tables) (flat_map tables_in code.execs)
    (all_flat (λ table. table < length code.tables) tables_in code.execs
    (behind_all (λ before exec. IsExec (length code.signals) code.tables code.rows exec)
    (λ exec. AllByRecursion (λ table. table < length code.tables) (tables_in exec))
    (λ before exec e. exec_tables code exec e) [] code.execs is.execs))

-- the same by their numbers
pub numbers_there : (code : Program) → IsProgram code
    → AllByRecursion (λ number. get_or (table_order code) number 0 < length code.tables) (range_with_len 0 (length (table_order code)))
numbers_there code is =
    all_from (λ number. number < length (table_order code)) _
    (λ number within. all_at (λ table. table < length code.tables) (table_order code) number 0 (order_there code is) within)
    (range_with_len 0 (length (table_order code))) (all_range 0 (length (table_order code)) (length (table_order code)) (omega arith))

-- ---- rows

-- the row of a number
pub row_sayable : (code : Program) → IsProgram code → (number : ℕ) → IsSayableRow code number
row_sayable code is number =
    let row = get_or (row_order code) number 0 in
    let places =
    all_or (λ (r : List ℕ). list_all is_place r ≡ true) code.rows row []
    (behind_all (IsRow (length code.signals)) (λ (r : List ℕ). list_all is_place r ≡ true) (λ before r x. x.characters) [] code.rows
    is.rows) refl in
    let few =
    all_or (λ (r : List ℕ). length r ≤ length code.signals) code.rows row []
    (behind_all (IsRow (length code.signals)) (λ (r : List ℕ). length r ≤ length code.signals) (λ before r x. omega (arith, x.places)) []
    code.rows is.rows)
    (omega arith) in
    record { places = places; few = few }
