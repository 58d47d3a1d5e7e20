-- What holds of the blocks that a flat text says.
use Rattle.std.specs.Prelude.{◌≡◌, None, Some}
use Rattle.packed_code.specs.Program.{Program}
use Rattle.packed_code.specs.Conditions.{IsProgram}
use Rattle.stil_ast.specs.Faults.SignalFaults.{fourth_fault}
use Rattle.stil_ast.specs.Faults.ExecutiveFaults.{fifth_fault}
use Rattle.stil_ast.specs.declared.blocks.Blocks.{Blocks}
use Rattle.stil_ast.specs.declared.fault.StilFault.{StilFault}
use Rattle.stil_ast.specs.declared.fault.StilKind.TheVariants.{TooLarge}
use Rattle.time_expr.specs.TimesOf.{times_of}
use Rattle.flat_parts.specs.FlatBlocks.{AreFlatBlocks}
use Rattle.flat_fine.specs.Fits.{AreFew}

-- the signals that it declares have no fault
abbrev pub NamesAreFine : Type 0
NamesAreFine =
    (code : Program) (blocks : Blocks) → IsProgram code → AreFlatBlocks code blocks → fourth_fault blocks ≡ None

-- a fault of its executives is that something is too large
abbrev pub ExecutivesAreFine : Type 0
ExecutivesAreFine =
    (code : Program) (blocks : Blocks) (fault : StilFault) → IsProgram code → AreFlatBlocks code blocks
    → fifth_fault times_of blocks ≡ Some fault → fault.kind ≡ TooLarge

-- and where they are few and shallow they have none
abbrev pub FewAreFine : Type 0
FewAreFine =
    (code : Program) (blocks : Blocks) → IsProgram code → AreFlatBlocks code blocks → AreFew code blocks
    → fifth_fault times_of blocks ≡ None
