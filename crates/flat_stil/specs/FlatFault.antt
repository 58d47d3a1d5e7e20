-- Which codes have a flat text that is accepted, and why another has none.
use Rattle.std.specs.Prelude.{◌≡◌, ℕ, ◌<◌, ◌≤◌, List, length, Some, None}
use Rattle.text_bytes.specs.Limits.{most_bytes}
use Rattle.stil_ast.specs.declared.fault.StilFault.{StilFault}
use Rattle.packed_code.specs.Program.{Program}
use Rattle.stil_ast.specs.declared.blocks.Blocks.{Blocks}
use Rattle.time_expr.specs.TimesOf.{times_of}
use Rattle.stil_program.specs.Program.{IsTextFault, IsTextOf}
use Rattle.flat_parts.specs.FlatText.{flat_text}
use Rattle.flat_laws.specs.SameProgram.{IsSameProgram}
use Rattle.flat_laws.specs.Laws.{IsLimit}
use Rattle.flat_stil.specs.declared.fault.FlatFault.{FlatFault}
use Rattle.flat_stil.specs.declared.fault.FlatFault.TheVariants as fault

-- the text is the code's flat text, is no longer than a text may be, and has no fault
pub record IsFlat (code : Program) (text : List ℕ) : Type 0 where
  pub is : text ≡ flat_text code
  pub short : length text ≤ most_bytes
  pub fine : IsTextFault text None

-- where this text is read, it says the whole code but for its chains: the same signals, and as many executives of the
-- same names, whose cycles start when those of the code do and have their characters, and tables of the same period and
-- waves
abbrev pub MeansSame : Program → List ℕ → Type 0
MeansSame code text = (blocks : Blocks) → IsTextOf text blocks → IsSameProgram times_of code blocks

-- the flat text is longer
abbrev pub IsTooLong : Program → Type 0
IsTooLong code = most_bytes < length (flat_text code)

-- the flat text isn't longer, and has a fault
pub record IsTooFlat (code : Program) : Type 0 where
  pub short : length (flat_text code) ≤ most_bytes
  pub fault : StilFault
  pub first : IsTextFault (flat_text code) (Some fault)

-- what fault it may have: that it is beyond a limit
abbrev pub IsBeyondLimits : Program → Type 0
IsBeyondLimits code = (fault : StilFault) → IsTextFault (flat_text code) (Some fault) → IsLimit fault.kind

-- what must be so for a fault; memory may be wanting at any time
abbrev pub IsCause : Program → FlatFault → Type 0
IsCause code fault.NoMemory = Unit {0}
IsCause code fault.TooLong = IsTooLong code
IsCause code fault.TooFlat = IsTooFlat code
