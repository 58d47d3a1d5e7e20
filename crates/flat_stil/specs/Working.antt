-- What the code computes on its way; no public clause cites it.
use Rattle.std.specs.Prelude.{◌≡◌, ℕ, ◌-◌, ◌≤◌, nat_le, Bool, true, false, List, [], ◌∷◌, ◌++◌, decimal, length, Option, Some, None, Result, Ok, Err, if◌then◌else◌}
use Rattle.tester_types.specs.Printing.{quoted}
use Rattle.flat_stil.specs.declared.sheet.Part.{Part}
use Rattle.flat_stil.specs.declared.sheet.Part.TheVariants.{Text, Character, Number, Name}
use Rattle.text_bytes.specs.Limits.{most_bytes}
use Rattle.stil_ast.specs.declared.fault.StilFault.{StilFault}
use Rattle.packed_code.specs.Program.{Program}
use Rattle.stil_program.specs.Program.{IsTextFault}
use Rattle.flat_parts.specs.FlatText.{text_of, flat_text}
use Rattle.flat_parts.specs.Order.{is_in, number_in}
use Rattle.flat_stil.specs.FlatFault.{IsTooLong, IsFlat, IsCause}
use Rattle.flat_stil.specs.declared.fault.FlatFault.{FlatFault}
use Rattle.flat_stil.specs.declared.fault.FlatFault.TheVariants as fault

-- a text so far, and how many bytes it may still get
pub record Written : Type 0 where
  pub text : List ℕ
  pub room : ℕ

-- what a part is written as
abbrev pub part_text : Part → List ℕ
part_text (Text text) = text.now
part_text (Character character) = character ∷ []
part_text (Number number) = decimal number
part_text (Name name) = quoted name.now

-- what a sheet holds after one more text: nothing more once a text had no room
unfoldable pub wrote : Option Written → List ℕ → Option Written
wrote None piece = None
wrote (Some w) piece =
    if nat_le (length piece) w.room
    then Some (record { text = w.text ++ piece; room = w.room - length piece }) else None

-- what it holds after lines
unfoldable pub prints : Option Written → List (List ℕ) → Option Written
prints sheet lines = wrote sheet (text_of lines)

-- ---- the text, and whether it has a fault

-- what is written of a code: its flat text, or none where that is too long
abbrev pub IsWritten : Program → Option (List ℕ) → Type 0
IsWritten code None = IsTooLong code
IsWritten code (Some text) = (text ≡ flat_text code) × (length (flat_text code) ≤ most_bytes)

-- whether a text has a fault
abbrev pub IsJudged : List ℕ → Bool → Type 0
IsJudged bytes true = (f : StilFault) × IsTextFault bytes (Some f)
IsJudged bytes false = IsTextFault bytes None

-- the text where it has no fault
abbrev pub Judges : List ℕ → Result (List ℕ) FlatFault → Type 0
Judges text (Ok found) = (found ≡ text) × IsTextFault text None
Judges text (Err fault.NoMemory) = Unit {0}
Judges text (Err fault.TooLong) = ⊥
Judges text (Err fault.TooFlat) = (f : StilFault) × IsTextFault text (Some f)

-- what is answered of a code
abbrev pub Answers : Program → Result (List ℕ) FlatFault → Type 0
Answers code (Ok text) = IsFlat code text
Answers code (Err e) = IsCause code e

-- where a number stands among others, if it does
abbrev pub IsPlace : List ℕ → ℕ → Option ℕ → Type 0
IsPlace order number (Some place) = (is_in order number ≡ true) × (number_in order number ≡ place)
IsPlace order number None = is_in order number ≡ false
