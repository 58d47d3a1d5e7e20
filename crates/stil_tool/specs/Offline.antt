-- What the commands that need no tester answer, and why.
use Rattle.std.specs.Prelude.{◌≡◌, ℕ, ◌≤◌, ◌⊎◌, List, [], ◌∷◌, Option, map, length, String, string_bytes}
use Rattle.std.specs.declared.alloc.Global.{Global}
use Rattle.tester_types.specs.Outside.{HasRisen, Files}
use Rattle.tool_inputs.specs.declared.status.Status.{Status}
use Rattle.tool_inputs.specs.declared.status.Status.TheVariants.{Usage}
use Rattle.text_commands.specs.declared.command.Command.{Command}
use Rattle.tool_inputs.specs.Endings.{limit, IsThere}
use Rattle.text_commands.specs.Commands.{command_word, FileWants, IsAccepted}
use Rattle.stil_tool.specs.declared.offline_call.TheConstants.{USAGE}
use Rattle.stil_tool.specs.Dump.{AreDump, DumpWants}

-- words without where they lie in memory
abbrev pub words_seen : List (String Global) → List (List ℕ)
words_seen words = map string_bytes words

-- the words of a command, which names a file
abbrev pub AreOf : List (List ℕ) → Command → List ℕ → Type 0
AreOf words command file = words ≡ command_word command ∷ file ∷ []

-- what is written where the words are none of the forms
abbrev pub usage_line : List ℕ
usage_line = USAGE.now

-- the words are those of a command on a text, or of a dump
abbrev pub NeedNoTester : List (List ℕ) → Type 0
NeedNoTester words =
    ((command : Command) × (file : List ℕ) × AreOf words command file)
    ⊎ ((program : List ℕ) × (plan : List ℕ) × (site : ℕ) × AreDump words program plan site)

-- What must be so of words that need no tester: a status comes with its line or text, and only where it is so.
pub data Wants (words : List (List ℕ)) (told : Option Files) (before now : ℕ) (status : Status) (text : List ℕ) :
    Type 0 where
  no_form : (NeedNoTester words → ⊥) → status ≡ Usage → text ≡ usage_line → Wants words told before now status text
  of_command : (command : Command) (file : List ℕ) → AreOf words command file
      → FileWants command file told before now status text → Wants words told before now status text
  of_dump : (program plan : List ℕ) (site : ℕ) → AreDump words program plan site
      → DumpWants told before now program plan site status text → Wants words told before now status text

-- the words are those of a command whose file is there, not too long, and accepted, and no count rose
pub record IsFine (words : List (List ℕ)) (told : Option Files) (before now faults faults' : ℕ) : Type 0 where
  pub command : Command
  pub file : List ℕ
  pub bytes : List ℕ
  pub are : AreOf words command file
  pub there : IsThere told file bytes
  pub fits : length bytes ≤ limit
  pub accepted : IsAccepted command bytes
  pub loads : HasRisen before now → ⊥
  pub puts : HasRisen faults faults' → ⊥
