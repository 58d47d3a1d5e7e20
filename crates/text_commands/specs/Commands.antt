-- What the commands that need no tester answer, and why.
use Rattle.std.specs.Prelude.{◌≡◌, ℕ, ◌<◌, ◌≤◌, List, [], ◌++◌, Option, Some, None, length, codes, ◌⊎◌}
use Rattle.std.specs.Option.{option_map_or}
use Rattle.tester_types.specs.Outside.{Files, TellsFile}
use Rattle.stil_ast.specs.Faults.FrontFaults.{too_many_at}
use Rattle.stil_ast.specs.declared.blocks.Blocks.{Blocks}
use Rattle.stil_ast.specs.declared.fault.StilFault.{StilFault}
use Rattle.packed_code.specs.Program.{Program}
use Rattle.packed_code.specs.Conditions.{IsProgram}
use Rattle.page_code.specs.Reading.{version_of}
use Rattle.page_code.specs.Spelling as spell
use Rattle.code_listing.specs.Lines.{AreFirstLines}
use Rattle.code_listing.specs.Text.{check_text, cycles_text, events_text}
use Rattle.stil_program.specs.Program.{IsTextFault, IsTextOf, IsProgramOf}
use Rattle.flat_parts.specs.FlatText.{flat_text}
use Rattle.flat_stil.specs.FlatFault.{IsFlat, MeansSame, IsTooLong, IsTooFlat, IsBeyondLimits}
use Rattle.tool_inputs.specs.declared.status.Status.{Status}
use Rattle.tool_inputs.specs.declared.status.Status.TheVariants.{Done, ReadFault, RefusedStil, OutOfMemory, TooLong, TooFlat}
use Rattle.text_commands.specs.declared.command.Command.{Command}
use Rattle.text_commands.specs.declared.command.Command.TheVariants.{Check, Cycles, Events, Save, Flat}
use Rattle.text_commands.specs.TextListing.{text_listing, signal_names}
use Rattle.tool_inputs.specs.Endings.{limit, read_fault_line, too_long_line, too_flat_line, refused_line, memory_line, LoadFailed, IsTooLong as IsFileTooLong, IsFile}

-- the word of a command
abbrev pub command_word : Command → List ℕ
command_word Check = codes "check"
command_word Cycles = codes "cycles"
command_word Events = codes "events"
command_word Save = codes "save"
command_word Flat = codes "flat"

-- ---- a text

-- the text has these blocks and no fault, and at most 65,536 cycles
pub record IsListed (bytes : List ℕ) (blocks : Blocks) : Type 0 where
  pub text : IsTextOf bytes blocks
  pub few : too_many_at blocks ≡ None

-- the saved form of a code in version 2
abbrev pub saved_form : Program → List ℕ
saved_form code = option_map_or (λ version. spell.program version code) (version_of 2) []

-- what a command writes of a text
abbrev pub IsOutput : Command → List ℕ → List ℕ → Type 0
IsOutput Check bytes text = (code : Program) × IsProgramOf bytes code × (text ≡ check_text code)
IsOutput Cycles bytes text = (blocks : Blocks) × IsListed bytes blocks × (text ≡ cycles_text (text_listing blocks))
IsOutput Events bytes text =
    (blocks : Blocks) × IsListed bytes blocks × (text ≡ events_text (signal_names blocks) (text_listing blocks))
IsOutput Save bytes text =
    (code : Program) × IsProgramOf bytes code × IsProgram code × (text ≡ saved_form code) × (length text ≤ limit)
IsOutput Flat bytes text = (code : Program) × IsProgramOf bytes code × IsFlat code text × MeansSame code text

-- a command prints cycle by cycle
abbrev pub IsListing : Command → Type 0
IsListing Check = ⊥
IsListing Cycles = Unit {0}
IsListing Events = Unit {0}
IsListing Save = ⊥
IsListing Flat = ⊥

-- a text without a fault has too many cycles to be printed, up to this executive
pub record HasTooMany (bytes : List ℕ) (fault : StilFault) : Type 0 where
  pub blocks : Blocks
  pub text : IsTextOf bytes blocks
  pub many : too_many_at blocks ≡ Some fault

-- why a command refuses a text: its first fault, or too many cycles to be printed
abbrev pub IsRefusedBy : Command → List ℕ → StilFault → Type 0
IsRefusedBy command bytes fault =
    IsTextFault bytes (Some fault) ⊎ (IsListing command × HasTooMany bytes fault)

-- what a command would write of a code has too many bytes
abbrev pub HasTooLong : Command → Program → Type 0
HasTooLong Check code = ⊥
HasTooLong Cycles code = ⊥
HasTooLong Events code = ⊥
HasTooLong Save code = limit < length (saved_form code)
HasTooLong Flat code = IsTooLong code

-- what would be written of a text has
pub record IsWrittenTooLong (command : Command) (bytes : List ℕ) : Type 0 where
  pub code : Program
  pub is : IsProgramOf bytes code
  pub whole : IsProgram code
  pub long : HasTooLong command code

-- the flat text of a text would be refused, as it is beyond a limit
pub record IsWrittenTooFlat (command : Command) (bytes : List ℕ) : Type 0 where
  pub flattens : command ≡ Flat
  pub code : Program
  pub is : IsProgramOf bytes code
  pub whole : IsProgram code
  pub flat : IsTooFlat code
  pub limit : IsBeyondLimits code

-- want of memory, which may come at any time; of events the first lines may stand before it
pub data Wanting (command : Command) (bytes text : List ℕ) : Type 0 where
  at_once : text ≡ memory_line → Wanting command bytes text
  behind : command ≡ Events → (blocks : Blocks) → IsListed bytes blocks → (lines : List ℕ)
      → AreFirstLines (events_text (signal_names blocks) (text_listing blocks)) lines → text ≡ lines ++ memory_line
      → Wanting command bytes text

-- what must be so of the bytes of a file for a status of a command, with what is written then
abbrev pub BytesWant : Command → List ℕ → List ℕ → Status → List ℕ → Type 0
BytesWant command file bytes Done text = IsOutput command bytes text
BytesWant command file bytes RefusedStil text =
    (fault : StilFault) × IsRefusedBy command bytes fault × (text ≡ refused_line fault)
BytesWant command file bytes TooLong text = IsWrittenTooLong command bytes × (text ≡ too_long_line file)
BytesWant command file bytes TooFlat text = IsWrittenTooFlat command bytes × (text ≡ too_flat_line file)
BytesWant command file bytes OutOfMemory text = Wanting command bytes text
BytesWant command file bytes _ text = ⊥

-- ---- a file

-- what must be so of a file
pub data FileWants (command : Command) (file : List ℕ) (told : Option Files) (before now : ℕ) (status : Status)
    (text : List ℕ) : Type 0 where
  of_bytes : (bytes : List ℕ) → IsFile told file bytes → BytesWant command file bytes status text
      → FileWants command file told before now status text
  unread : status ≡ ReadFault → LoadFailed told before now file → text ≡ read_fault_line file
      → FileWants command file told before now status text
  too_long : status ≡ TooLong → TellsFile told file IsFileTooLong → text ≡ too_long_line file
      → FileWants command file told before now status text
  no_memory : status ≡ OutOfMemory → text ≡ memory_line → FileWants command file told before now status text

-- the text has no fault, and not too many cycles for a command that prints them, nor too many bytes for one that saves;
-- its flat text, for one that writes it, isn't too long and has no fault; this of codes that meet all conditions
abbrev pub IsAccepted : Command → List ℕ → Type 0
IsAccepted Check bytes = IsTextFault bytes None
IsAccepted Cycles bytes = (blocks : Blocks) × IsListed bytes blocks
IsAccepted Events bytes = (blocks : Blocks) × IsListed bytes blocks
IsAccepted Save bytes =
    IsTextFault bytes None
    × ((code : Program) → IsProgramOf bytes code → IsProgram code → length (saved_form code) ≤ limit)
IsAccepted Flat bytes =
    IsTextFault bytes None
    × ((code : Program) → IsProgramOf bytes code → IsProgram code → IsFlat code (flat_text code))
