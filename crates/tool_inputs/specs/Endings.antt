-- What the commands that need no tester answer, and why.
use Rattle.std.specs.Prelude.{◌≡◌, ℕ, ◌<◌, ◌≤◌, List, ◌++◌, Option, Some, None, length, codes, decimal, ◌⊎◌}
use Rattle.text_bytes.specs.Limits.{most_bytes}
use Rattle.tester_types.specs.Outside.{HasRisen, gained, GainsFront, Files, TellsFile, LacksFile, file_of}
use Rattle.tester_types.specs.Printing.{printed_name, printed_title}
use Rattle.stil_ast.specs.Data.KindName.{kind_name}
use Rattle.stil_ast.specs.declared.fault.StilFault.{StilFault}
use Rattle.tool_inputs.specs.declared.status.Status.{Status}
use Rattle.tool_inputs.specs.declared.status.Status.TheVariants.{Done, WriteFault, OutOfMemory}

-- the most bytes that a file may have
abbrev pub limit : ℕ
limit = most_bytes

-- what is written where a file couldn't be loaded
abbrev pub read_fault_line : List ℕ → List ℕ
read_fault_line name = codes "read fault " ++ printed_name name ++ codes "\n"

-- what is written where a file, or what is to be written of it, has too many bytes
abbrev pub too_long_line : List ℕ → List ℕ
too_long_line name = codes "too long " ++ printed_name name ++ codes "\n"

-- what is written where the flat text of a file would be refused
abbrev pub too_flat_line : List ℕ → List ℕ
too_flat_line name = codes "not flat " ++ printed_name name ++ codes "\n"

-- what is written where a text is refused: the kind of its first fault, the block and its name, and the line
abbrev pub refused_line : StilFault → List ℕ
refused_line fault =
    codes "refused stil " ++ kind_name fault.kind ++ codes " " ++ printed_title fault.block ++ codes " "
    ++ printed_title fault.name ++ codes " " ++ decimal fault.line ++ codes "\n"

-- what is written where memory ran out
abbrev pub memory_line : List ℕ
memory_line = codes "out of memory\n"

-- a load of the file failed: the shelf's count rose, or its told files lack the name
abbrev pub LoadFailed : Option Files → ℕ → ℕ → List ℕ → Type 0
LoadFailed told before now name = HasRisen before now ⊎ LacksFile told name

-- the file has more bytes than there may be
pub record IsTooLong (file : Option (List ℕ)) : Type 0 where
  pub bytes : List ℕ
  pub is_there : file ≡ Some bytes
  pub more : limit < length bytes

-- the file, where it is told, has these bytes, and they are not too many
pub record IsFile (told : Option Files) (name bytes : List ℕ) : Type 0 where
  pub are : TellsFile told name (λ found. found ≡ Some bytes)
  pub fits : length bytes ≤ limit

-- a run ends with the status and its text written whole, or as a write fault with a front of that text; the sink's
-- count of faults doesn't fall
pub record Ends (held : Option (List ℕ)) (faults : ℕ) (status : Status) (text : List ℕ)
    (result : Status) (held' : Option (List ℕ)) (faults' : ℕ) : Type 0 where
  pub ends : ((result ≡ status) × (held' ≡ gained held text))
      ⊎ ((result ≡ WriteFault) × GainsFront held text held' × HasRisen faults faults')
  pub count : faults ≤ faults'

-- a run's answer has its cause, and its text
pub record Answers (wants : Status → List ℕ → Type 0)
    (held : Option (List ℕ)) (faults : ℕ) (result : Status) (held' : Option (List ℕ)) (faults' : ℕ) : Type 0 where
  pub status : Status
  pub text : List ℕ
  pub wanted : wants status text
  pub ends : Ends held faults status text result held' faults'

-- ---- completeness

-- the files are told, and this one has these bytes
abbrev pub IsThere : Option Files → List ℕ → List ℕ → Type 0
IsThere None name bytes = ⊥
IsThere (Some files) name bytes = file_of files name ≡ Some bytes

-- so memory alone can be wanting
abbrev pub IsDone : Status → Type 0
IsDone result = (result ≡ Done) ⊎ (result ≡ OutOfMemory)
