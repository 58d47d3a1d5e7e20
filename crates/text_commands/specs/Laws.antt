-- When a text is saved and when its flat text is written, by plain numbers of the text.
use Rattle.std.specs.Prelude.{ℕ, List}
use Rattle.stil_ast.specs.declared.blocks.Blocks.{Blocks}
use Rattle.stil_program.specs.Program.{IsTextOf}
use Rattle.text_commands.specs.declared.command.Command.TheVariants.{Save, Flat}
use Rattle.text_commands.specs.Commands.{IsAccepted}
use Rattle.text_commands.specs.Numbers.{IsSavable, IsFlattable}

-- a text without a fault is saved where its numbers make few bytes
abbrev pub SavedByNumbers : Type 0
SavedByNumbers = (bytes : List ℕ) (blocks : Blocks) → IsTextOf bytes blocks → IsSavable blocks → IsAccepted Save bytes

-- its flat text is written where its numbers are within these bounds
abbrev pub FlatByNumbers : Type 0
FlatByNumbers =
    (bytes : List ℕ) (blocks : Blocks) (left longest : ℕ) → IsTextOf bytes blocks → IsFlattable blocks left longest
    → IsAccepted Flat bytes
