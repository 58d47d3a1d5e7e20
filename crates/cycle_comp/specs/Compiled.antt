-- The code of executives: their signals, tables, rows and chains, and for each its cycles (IEEE 1450-1999, clauses 16,
-- 18 and 22).
use Rattle.std.specs.Prelude.{◌≡◌, ℕ, ◌+◌, ◌-◌, ◌<◌, ◌≤◌, ◌==◌, List, [], ◌∷◌, ◌++◌, Option, Some, None, map, length, nat_le, if◌then◌else◌}
use Rattle.std.specs.List.{AllByRecursion, enumerate_from}
use Rattle.stil_ast.specs.Meaning.Signals.{Signal, Names}
use Rattle.stil_ast.specs.Meaning.Chains.{Chain}
use Rattle.stil_ast.specs.Meaning.State.{start_of}
use Rattle.stil_ast.specs.Meaning.Cycles.{Dated}
use Rattle.stil_ast.specs.Meaning.ExecutiveData.{Executive, cycles_of as text_cycles, measure_of, least_in, rows_of, tables_of}
use Rattle.stil_ast.specs.Faults.CodeFaults.{compile_faults}
use Rattle.stil_ast.specs.declared.fault.StilFault.{StilFault}
use Rattle.packed_code.specs.declared.parts.CodeSignal.{CodeSignal}
use Rattle.packed_code.specs.declared.parts.CodeChain.{CodeChain}
use Rattle.tester_types.specs.declared.cycle.Cycle.{Cycle}
use Rattle.packed_code.specs.Program.{Program}
use Rattle.packed_code.specs.Conditions.{characters_of}
use Rattle.packed_code.specs.Cycles.{cycles_of, exec_of}
use Rattle.cycle_comp.specs.Depth.{depth_of, NestWithin}

-- a signal of a code
abbrev pub signal_of : Signal → CodeSignal
signal_of s = record { name = s.text; direction = s.direction }

-- a chain of a code
abbrev pub chain_of : Chain → CodeChain
chain_of c = record { name = c.name; out = c.scan_out; length = c.length; cells = c.cells }

-- what a row has for a signal, as a character: 0 is none
abbrev pub character_of : ℕ → Option ℕ
character_of byte = if byte == 0 then None else Some byte

-- the table of a code as one of an executive whose first table has the number `first` in the code: none where it stands
-- before these
abbrev pub table_in : ℕ → ℕ → Option ℕ
table_in first table = if nat_le first table then Some (table - first) else None

-- a numbered cycle of a code, its row read as characters, and its table as one of its executive, whose first table has
-- the number `first` in the code
abbrev pub read_cycle : ℕ → List (List ℕ) → ℕ × Cycle → Dated
read_cycle first rows cycle = record {
  number = cycle.0;
  start = cycle.1.start;
  vector = record {
    table = table_in first cycle.1.table;
    characters = map character_of (characters_of rows cycle.1.row);
    mark = cycle.1.mark;
  };
}

-- the cycles of an executive of a code, read so
abbrev pub read_cycles : ℕ → Program → ℕ → List Dated
read_cycles first code exec = map (read_cycle first code.rows) (enumerate_from 0 (cycles_of code exec))

-- how few instructions keep the loops of an executive, where a Loop whose passes make equal vectors stands once
abbrev pub least_of : ℕ → Executive → ℕ
least_of signals e = least_in e.trees (start_of signals)

-- An executive of a code is one of a text over so many signals: its name, its chains, and its cycles one by one, which
-- run in its own tables. No loop is unrolled, since the number of its instructions is that of its measure at most; and
-- a Loop whose passes make equal vectors stands once. No Loop has a single pass, and Loops nest no deeper than in its
-- trees.
pub record IsExecOf (signals first : ℕ) (e : Executive) (code : Program) (number : ℕ) : Type 0 where
  pub name : (exec_of code number).name ≡ e.name
  pub chains : (exec_of code number).chains ≡ map chain_of e.chains
  pub cycles : read_cycles first code number ≡ text_cycles signals e
  pub inside : AllByRecursion (λ cycle. (first ≤ cycle.table) × (cycle.table < first + length e.tables))
      (cycles_of code number)
  pub size : length (exec_of code number).instrs ≤ measure_of e + 1
  pub least : length (exec_of code number).instrs ≤ least_of signals e + 1
  pub nest : NestWithin (depth_of e) 0 (exec_of code number).instrs

-- the code of executives: their signals, their tables one after another, the rows of their vectors, each once, and each
-- executive under its number
pub record IsCodeOf (names : Names) (executives : List Executive) (code : Program) : Type 0 where
  pub signals : code.signals ≡ map signal_of names.signals
  pub tables : code.tables ≡ tables_of executives
  pub rows : code.rows ≡ rows_of (length names.signals) executives
  pub count : length code.execs ≡ length executives
  pub each : (before after : List Executive) (e : Executive) → executives ≡ before ++ e ∷ after
      → IsExecOf (length names.signals) (length (tables_of before)) e code (length before)

-- the first fault of executives over these signals as they are compiled
abbrev pub code_fault : Names → List Executive → Option StilFault
code_fault names executives = compile_faults (length names.signals) [] executives
