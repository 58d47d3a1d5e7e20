-- The cycles of a flat text beside those of its code.
use Rattle.std.specs.Prelude.{◌≡◌, ℕ, List, slice_get, Some}
use Rattle.std.specs.List.{AllZip}
use Rattle.tester_types.specs.declared.wave.Table.{Table}
use Rattle.tester_types.specs.declared.cycle.Cycle.{Cycle}
use Rattle.packed_code.specs.Program.{Program}
use Rattle.packed_code.specs.Conditions.{characters_of}
use Rattle.packed_code.specs.Cycles.{cycles_of}
use Rattle.stil_ast.specs.Meaning.Cycles.{Dated}
use Rattle.stil_ast.specs.Meaning.ExecutiveData.{row_of}
use Rattle.stil_ast.specs.Meaning.Executive.{cycles, table_list}
use Rattle.stil_ast.specs.Meaning.Times.{Times}
use Rattle.stil_ast.specs.declared.executive.ExecDecl.{ExecDecl}
use Rattle.stil_ast.specs.declared.blocks.Blocks.{Blocks}

-- a cycle of the text, whose executive has these tables, beside a cycle of the code: the same start, the same
-- characters, a table of the same period and waves, and no mark
pub record IsSameCycle (code : Program) (tables : List Table) (c : Cycle) (d : Dated) : Type 0 where
  pub start : d.start ≡ c.start
  pub characters : row_of d.vector ≡ characters_of code.rows c.row
  pub number : ℕ
  pub named : d.vector.table ≡ Some number
  pub old : Table
  pub old_is : slice_get code.tables c.table ≡ Some old
  pub new : Table
  pub new_is : slice_get tables number ≡ Some new
  pub period : new.period ≡ old.period
  pub waves : new.waves ≡ old.waves
  pub mark : d.vector.mark ≡ 0

-- the cycles of each executive of the blocks are those of the code's executive of its number, one by one
abbrev pub HasSameCycles : {V : Type 0} → Times V → Program → Blocks → Type 0
HasSameCycles times code blocks =
    (exec : ℕ) (e : ExecDecl) → slice_get blocks.executives exec ≡ Some e
    → AllZip (IsSameCycle code (table_list times blocks e)) (cycles_of code exec) (cycles times blocks e)
