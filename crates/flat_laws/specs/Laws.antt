-- What holds of the flat text of a code: it says the whole code but for its chains, and it has no fault but that it is
-- beyond a limit of texts.
use Rattle.std.specs.Prelude.{◌≡◌, ◌⊎◌, ℕ, true, Some, None}
use Rattle.stil_ast.specs.declared.blocks.Blocks.{Blocks}
use Rattle.stil_ast.specs.declared.fault.StilFault.{StilFault}
use Rattle.stil_ast.specs.declared.fault.StilKind.{StilKind}
use Rattle.stil_ast.specs.declared.fault.StilKind.TheVariants.{TooLarge, OutOfRange, TooDeep}
use Rattle.packed_code.specs.Program.{Program}
use Rattle.packed_code.specs.Conditions.{IsProgram}
use Rattle.time_expr.specs.TimesOf.{times_of}
use Rattle.stil_program.specs.Program.{IsTextFault, IsTextOf}
use Rattle.flat_parts.specs.FlatText.{flat_text, has_plain_names}
use Rattle.flat_laws.specs.Limits.{IsWithinLimits}
use Rattle.flat_laws.specs.SameProgram.{IsSameProgram}

-- a text is beyond a limit: it walks, measures or holds too much; a Timing has too many tables; its loops nest too deep
abbrev pub IsLimit : StilKind → Type 0
IsLimit kind = (kind ≡ TooLarge) ⊎ (kind ≡ OutOfRange) ⊎ (kind ≡ TooDeep)

-- the first fault of a flat text is such
abbrev pub FaultsAreLimits : Type 0
FaultsAreLimits =
    (code : Program) (fault : StilFault) → IsProgram code → has_plain_names code ≡ true
    → IsTextFault (flat_text code) (Some fault) → IsLimit fault.kind

-- where it has none, its signals, executives and cycles are those of the code
abbrev pub ProgramIsSame : Type 0
ProgramIsSame =
    (code : Program) (blocks : Blocks) → IsProgram code → has_plain_names code ≡ true
    → IsTextOf (flat_text code) blocks → IsSameProgram times_of code blocks

-- it has none where it is within the limits
abbrev pub FlatIsFine : Type 0
FlatIsFine =
    (code : Program) (left : ℕ) → IsProgram code → has_plain_names code ≡ true → IsWithinLimits code left
    → IsTextFault (flat_text code) None
