-- The first fault of a text over all passes, or the code of a text without a fault (IEEE 1450-1999, clauses 6 to 24).
use Rattle.std.specs.Prelude.{◌≡◌, ℕ, suc, ◌+◌, ◌^◌, ◌<◌, ◌≤◌, List, map, length, Option, Some, None, slice_get}
use Rattle.stil_ast.specs.Faults.FrontFaults.{IsFaultOf}
use Rattle.stil_ast.specs.Faults.TextFaults.{blocks_fault}
use Rattle.stil_ast.specs.Meaning.Executive.{executive_of}
use Rattle.stil_ast.specs.Meaning.Signals.{names_of}
use Rattle.stil_ast.specs.Meaning.ExecutiveData.{Executive, measure_of}
use Rattle.stil_ast.specs.declared.blocks.Blocks.{Blocks}
use Rattle.stil_ast.specs.declared.executive.ExecDecl.{ExecDecl}
use Rattle.stil_ast.specs.declared.fault.StilFault.{StilFault}
use Rattle.stil_ast.specs.Data.Refusal.{StilRefusal}
use Rattle.answers.specs.declared.short.Short.TheVariants as refusal
use Rattle.packed_code.specs.Program.{Program}
use Rattle.packed_code.specs.Cycles.{exec_of}
use Rattle.stil_program.specs.Front.{IsReadAs, IsFront}
use Rattle.time_expr.specs.TimesOf.{times_of}
use Rattle.burst_exec.specs.Executives.{AreAllOf}
use Rattle.cycle_comp.specs.Compiled.{least_of, IsCodeOf}
use Rattle.cycle_comp.specs.Depth.{NestWithin}

-- The first fault of a text, or none: that of its tokens, statements and blocks, which reading finds; else that of its
-- signals and groups, of its executives, or of what they are compiled to.
abbrev pub IsTextFault : List ℕ → Option StilFault → Type 0
IsTextFault bytes fault = IsFaultOf times_of IsFront bytes fault

-- the text has these blocks, and no fault
pub record IsTextOf (bytes : List ℕ) (blocks : Blocks) : Type 0 where
  pub read : IsReadAs bytes blocks
  pub fine : blocks_fault times_of blocks ≡ None

-- the code is that of these blocks: of executives that are all those of the blocks, over the signals of the blocks
pub record IsBlocksCode (blocks : Blocks) (code : Program) : Type 0 where
  pub executives : List Executive
  pub are : AreAllOf blocks executives
  pub code_is : IsCodeOf (names_of blocks) executives code

-- The code of blocks keeps their loops: each executive has one instruction more at most than the least that take the
-- flat trees which the language defines for it, where a Loop whose passes make equal vectors stands once.
abbrev pub CodeKeepsLoops : Type 0
CodeKeepsLoops =
    (blocks : Blocks) (code : Program) (number : ℕ) (e : ExecDecl) → IsBlocksCode blocks code →
    slice_get blocks.executives number ≡ Some e →
    length (exec_of code number).instrs
    ≤ least_of (length (names_of blocks).signals) (executive_of times_of blocks e) + 1

-- The code of blocks isn't needlessly deep: no Loop has a single pass, and where the measure of the flat trees that the
-- language defines for an executive is below 2 ^ (n + 2) - 2, its Loops nest n deep at most.
abbrev pub CodeIsShallow : Type 0
CodeIsShallow =
    (blocks : Blocks) (code : Program) (number : ℕ) (e : ExecDecl) (most : ℕ) → IsBlocksCode blocks code →
    slice_get blocks.executives number ≡ Some e →
    measure_of (executive_of times_of blocks e) + 2 < 2 ^ suc (suc most) →
    NestWithin most 0 (exec_of code number).instrs

-- the code is that of a text without a fault
pub record IsProgramOf (bytes : List ℕ) (code : Program) : Type 0 where
  pub blocks : Blocks
  pub text : IsTextOf bytes blocks
  pub compiled : IsBlocksCode blocks code

-- the same, with the line of each of its executives in text order
pub record IsCompiledText (bytes : List ℕ) (code : Program) (lines : List ℕ) : Type 0 where
  pub blocks : Blocks
  pub text : IsTextOf bytes blocks
  pub compiled : IsBlocksCode blocks code
  pub lines_are : lines ≡ map (λ (e : ExecDecl). e.line) blocks.executives

-- a refusal is for the first fault of the text
pub record IsRefusal (bytes : List ℕ) (r : StilRefusal) : Type 0 where
  pub fault : StilFault
  pub is : r ≡ refusal.Fault fault
  pub first : IsTextFault bytes (Some fault)
