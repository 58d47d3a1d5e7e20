-- What holds of the cycles of the blocks that a flat text says.
use Rattle.std.specs.Prelude.{◌≡◌, ℕ, Some, None}
use Rattle.packed_code.specs.Program.{Program}
use Rattle.packed_code.specs.Conditions.{IsProgram}
use Rattle.stil_ast.specs.Faults.CodeFaults.{sixth_fault}
use Rattle.stil_ast.specs.declared.blocks.Blocks.{Blocks}
use Rattle.stil_ast.specs.declared.fault.StilFault.{StilFault}
use Rattle.stil_ast.specs.declared.fault.StilKind.TheVariants.{TooLarge}
use Rattle.time_expr.specs.TimesOf.{times_of}
use Rattle.flat_parts.specs.FlatBlocks.{AreFlatBlocks}
use Rattle.flat_parts.specs.SameCycles.{HasSameCycles}
use Rattle.flat_cycles.specs.Small.{AreSmall}

-- the cycles of its executives are those of the code's
abbrev pub CyclesAreSame : Type 0
CyclesAreSame =
    (code : Program) (blocks : Blocks) → IsProgram code → AreFlatBlocks code blocks
    → HasSameCycles times_of code blocks

-- a fault that is met as its executives are compiled is that something is too large
abbrev pub CompilingIsFine : Type 0
CompilingIsFine =
    (code : Program) (blocks : Blocks) (fault : StilFault) → IsProgram code → AreFlatBlocks code blocks
    → sixth_fault times_of blocks ≡ Some fault → fault.kind ≡ TooLarge

-- and where they are small there is none
abbrev pub SmallAreFine : Type 0
SmallAreFine =
    (code : Program) (blocks : Blocks) (left : ℕ) → IsProgram code → AreFlatBlocks code blocks → AreSmall code left
    → sixth_fault times_of blocks ≡ None
