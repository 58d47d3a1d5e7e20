-- What is answered of a code that is to be written flat; no public clause cites it.
use Rattle.std.specs.Prelude.{◌≡◌, ℕ, List}
use Rattle.packed_code.specs.Program.{Program}
use Rattle.packed_code.specs.Conditions.{IsProgram}
use Rattle.flat_stil.specs.FlatFault.{IsFlat, MeansSame, IsTooLong, IsTooFlat, IsBeyondLimits}
use Rattle.flat_stil.specs.declared.fault.FlatFault.{FlatFault}
use Rattle.flat_stil.specs.declared.fault.FlatFault.TheVariants as fault
use Rattle.tool_inputs.specs.declared.status.Status.{Status}
use Rattle.tool_inputs.specs.declared.status.Status.TheVariants.{Done, OutOfMemory, TooLong, TooFlat}
use Rattle.tool_inputs.specs.Endings.{too_long_line, too_flat_line, memory_line}

-- what must be so of the code of this file for a status, with what is written then
abbrev pub FlatWant : List ℕ → Program → Status → List ℕ → Type 0
FlatWant file code Done text = IsFlat code text × MeansSame code text
FlatWant file code TooLong text = IsTooLong code × IsProgram code × (text ≡ too_long_line file)
FlatWant file code TooFlat text =
    IsTooFlat code × IsBeyondLimits code × IsProgram code × (text ≡ too_flat_line file)
FlatWant file code OutOfMemory text = text ≡ memory_line
FlatWant file code _ text = ⊥

-- the status of a fault
abbrev pub flat_status : FlatFault → Status
flat_status fault.NoMemory = OutOfMemory
flat_status fault.TooLong = TooLong
flat_status fault.TooFlat = TooFlat

-- its line
abbrev pub flat_line : List ℕ → FlatFault → List ℕ
flat_line file fault.NoMemory = memory_line
flat_line file fault.TooLong = too_long_line file
flat_line file fault.TooFlat = too_flat_line file
