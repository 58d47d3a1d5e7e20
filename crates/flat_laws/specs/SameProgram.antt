-- When the blocks of a text say a whole code but for its scan chains.
use Rattle.std.specs.Prelude.{◌≡◌, ℕ, [], map, length, slice_get, Some}
use Rattle.packed_code.specs.Program.{Program}
use Rattle.packed_code.specs.Cycles.{exec_of}
use Rattle.stil_ast.specs.Meaning.Signals.{names_of}
use Rattle.stil_ast.specs.Meaning.Executive.{chain_list}
use Rattle.stil_ast.specs.Meaning.Times.{Times}
use Rattle.stil_ast.specs.declared.executive.ExecDecl.{ExecDecl}
use Rattle.stil_ast.specs.declared.blocks.Blocks.{Blocks}
use Rattle.cycle_comp.specs.Compiled.{signal_of}
use Rattle.flat_parts.specs.SameCycles.{HasSameCycles}

-- The signals of the blocks are those of the code, by their names and directions in the same order. There are as many
-- executives as the code has, in the same order with the same names, and the cycles of each are those of the code's one
-- by one. None has a chain.
pub record IsSameProgram {V : Type 0} (times : Times V) (code : Program) (blocks : Blocks) : Type 0 where
  pub signals : map signal_of (names_of blocks).signals ≡ code.signals
  pub count : length blocks.executives ≡ length code.execs
  pub names : (exec : ℕ) (e : ExecDecl) → slice_get blocks.executives exec ≡ Some e
      → e.name ≡ (exec_of code exec).name
  pub cycles : HasSameCycles times code blocks
  pub unchained : (e : ExecDecl) → chain_list blocks e ≡ []
