-- How many bytes the saved form of a code takes at most, by plain numbers.
use Rattle.std.specs.Prelude.{ℕ, ◌+◌, ◌*◌, ◌≤◌, List, length, sum_by}
use Rattle.tester_types.specs.declared.wave.Wave.{Wave}
use Rattle.tester_types.specs.declared.wave.Table.{Table}
use Rattle.packed_code.specs.declared.parts.CodeSignal.{CodeSignal}
use Rattle.packed_code.specs.declared.parts.CodeChain.{CodeChain}
use Rattle.packed_code.specs.Program.{Exec, Program}
use Rattle.packed_code.specs.Conditions.{IsProgram, wave_count}
use Rattle.page_code.specs.declared.version.Version.{Version}
use Rattle.page_code.specs.Spelling.{program}

-- how many signals, executives, tables, waves of these tables, events of these waves, rows, instructions, scan chains
-- and cells of these chains there are, and how many bytes all their names have
pub record Numbers : Type 0 where
  pub signals : ℕ
  pub executives : ℕ
  pub tables : ℕ
  pub waves : ℕ
  pub events : ℕ
  pub rows : ℕ
  pub instructions : ℕ
  pub chains : ℕ
  pub cells : ℕ
  pub names : ℕ

-- the events of a table
abbrev pub events_in : Table → ℕ
events_in table = sum_by (λ (w : Wave). length w.events) table.waves

-- the cells of chains
abbrev pub cells_in : List CodeChain → ℕ
cells_in chains = sum_by (λ (c : CodeChain). length c.cells) chains

-- the bytes of a chain's name and of those of its cells
abbrev pub chain_names : CodeChain → ℕ
chain_names chain = length chain.name + sum_by (λ (cell : List ℕ). length cell) chain.cells

-- the bytes of the names of an executive and its chains
abbrev pub exec_names : Exec → ℕ
exec_names exec = length exec.name + sum_by chain_names exec.chains

-- the numbers of a code
abbrev pub numbers_in : Program → Numbers
numbers_in code = record {
  signals = length code.signals;
  executives = length code.execs;
  tables = length code.tables;
  waves = wave_count code.tables;
  events = sum_by events_in code.tables;
  rows = length code.rows;
  instructions = sum_by (λ (x : Exec). length x.instrs) code.execs;
  chains = sum_by (λ (x : Exec). length x.chains) code.execs;
  cells = sum_by (λ (x : Exec). cells_in x.chains) code.execs;
  names = sum_by (λ (s : CodeSignal). length s.name) code.signals + sum_by (λ (t : Table). length t.name) code.tables
      + sum_by exec_names code.execs;
}

-- the most bytes of the saved form of a code with such numbers
abbrev pub saved_most : Numbers → ℕ
saved_most n =
    18 + n.names + 3 * n.signals + 14 * n.tables + 4 * n.waves + 9 * n.events + n.rows * n.signals + n.rows
    + 8 * n.executives + 12 * n.chains + 2 * n.cells + 16 * n.instructions

-- no saved form takes more
abbrev pub SavedIsShort : Type 0
SavedIsShort =
    (version : Version) (code : Program) → IsProgram code → length (program version code) ≤ saved_most (numbers_in code)
