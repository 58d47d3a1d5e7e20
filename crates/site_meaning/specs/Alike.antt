-- What two plans have in common that record a site alike: codes, circuits and rows that say the same, whatever
-- instructions say it, and in whatever order the gates lie.
use Rattle.std.specs.Prelude.{◌≡◌, ℕ, ◌<◌, List, length, map}
use Rattle.tester_types.specs.declared.cycle.Cycle.{Cycle}
use Rattle.packed_code.specs.Program.{Program}
use Rattle.packed_code.specs.Cycles.{exec_of, cycles_of}
use Rattle.packed_code.specs.Conditions.{characters_of}
use Rattle.bench_net.specs.Circuit.{Circuit, IsWhole}
use Rattle.site_meaning.specs.Part.{Part, dies_in, circuit_in}

-- a cycle by what it says: when it starts, its table, the character of each signal, and its mark
pub record SaidCycle : Type 0 where
  pub start : ℕ
  pub table : ℕ
  pub characters : List ℕ
  pub mark : ℕ

-- what a cycle says, its row read among these
abbrev pub said_by : List (List ℕ) → Cycle → SaidCycle
said_by rows cycle = record {
  start = cycle.start;
  table = cycle.table;
  characters = characters_of rows cycle.row;
  mark = cycle.mark;
}

-- what the cycles of an executive say
abbrev pub said_cycles : Program → ℕ → List SaidCycle
said_cycles code exec = map (said_by code.rows) (cycles_of code exec)

-- codes that say the same: their signals, tables and rows, and of each executive its name, its chains and its cycles
pub record AreCodesAlike (code other : Program) : Type 0 where
  pub signals : code.signals ≡ other.signals
  pub tables : code.tables ≡ other.tables
  pub rows : code.rows ≡ other.rows
  pub execs : length code.execs ≡ length other.execs
  pub names : (exec : ℕ) → (exec_of code exec).name ≡ (exec_of other exec).name
  pub chains : (exec : ℕ) → (exec_of code exec).chains ≡ (exec_of other exec).chains
  pub cycles : (exec : ℕ) → said_cycles code exec ≡ said_cycles other exec

-- circuits of one netlist, each with its gates in an order of its own
pub record AreCircuitsAlike (circuit other : Circuit) : Type 0 where
  pub net : circuit.net ≡ other.net
  pub whole : IsWhole circuit
  pub other_whole : IsWhole other

-- parts of one site, with the same rows, codes that say the same, and dies of the same netlists
pub record ArePartsAlike (part other : Part) : Type 0 where
  pub site : part.site ≡ other.site
  pub rows : part.rows ≡ other.rows
  pub code : AreCodesAlike part.code other.code
  pub circuits : (die : ℕ) → die < dies_in part → AreCircuitsAlike (circuit_in part die) (circuit_in other die)
