-- A code as plain data.
use Rattle.std.specs.Prelude.{ℕ, List}
use Rattle.packed_code.specs.declared.instr.Instr.{Instr}
use Rattle.tester_types.specs.declared.wave.Table.{Table}
use Rattle.packed_code.specs.declared.parts.CodeSignal.{CodeSignal}
use Rattle.packed_code.specs.declared.parts.CodeChain.{CodeChain}

-- an executive: its name, empty where it has none, its scan chains, and its instructions
pub record Exec : Type 0 where
  pub name : List ℕ
  pub chains : List CodeChain
  pub instrs : List Instr

-- a code: signals in declared order, tables, rows with one character per signal, and executives
pub record Program : Type 0 where
  pub signals : List CodeSignal
  pub tables : List Table
  pub rows : List (List ℕ)
  pub execs : List Exec

-- a code of these parts
abbrev pub code_of : List CodeSignal → List Table → List (List ℕ) → List Exec → Program
code_of signals tables rows execs = record { signals = signals; tables = tables; rows = rows; execs = execs }
