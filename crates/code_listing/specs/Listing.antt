-- The cycles of executives as they are listed, and those of a code.
use Rattle.std.specs.Prelude.{ℕ, List, [], length, map, sum_by, slice_index_or}
use Rattle.std.specs.List.{enumerate_from, flat_map, range_with_len}
use Rattle.tester_types.specs.declared.wave.Table.{Table}
use Rattle.tester_types.specs.declared.cycle.Cycle.{Cycle}
use Rattle.packed_code.specs.Program.{Program}
use Rattle.packed_code.specs.Conditions.{characters_of}
use Rattle.packed_code.specs.Cycles.{cycles_of, exec_of}

-- a cycle: its number and its start in its executive, its table, and its row, which has the character of each signal, 0
-- for a signal without one
pub record Listed : Type 0 where
  pub number : ℕ
  pub start : ℕ
  pub table : Table
  pub row : List ℕ

-- an executive: its number, its name, which is empty where it has none, and its cycles
pub record ListedExec : Type 0 where
  pub number : ℕ
  pub name : List ℕ
  pub cycles : List Listed

-- a table that is nowhere named
abbrev pub no_table : Table
no_table = record { name = []; period = 0; waves = [] }

-- a numbered cycle of a code
abbrev pub listed : Program → ℕ × Cycle → Listed
listed code cycle = record {
  number = cycle.0;
  start = cycle.1.start;
  table = slice_index_or code.tables cycle.1.table no_table;
  row = characters_of code.rows cycle.1.row;
}

-- an executive of a code
abbrev pub listed_exec : Program → ℕ → ListedExec
listed_exec code exec = record {
  number = exec;
  name = (exec_of code exec).name;
  cycles = map (listed code) (enumerate_from 0 (cycles_of code exec));
}

-- all executives of a code
abbrev pub listing_of : Program → List ListedExec
listing_of code = map (listed_exec code) (range_with_len 0 (length code.execs))

-- all their cycles
abbrev pub cycles_in : List ListedExec → List Listed
cycles_in execs = flat_map (λ exec. exec.cycles) execs

-- how long cycles take
abbrev pub time_of : List Listed → ℕ
time_of cycles = sum_by (λ cycle. cycle.table.period) cycles
