-- A command whose file is there and whose text is accepted is done, where no count rises: `completes`.
use Rattle.std.proofs.Common.{◌≡◌, ℕ, ◌≤◌, List, [], ◌∷◌, length, Option, Some, None, refl, sym, ap, ◌∙◌, subst, arith, inl, inr}
use Rattle.std.specs.List.{find}
use Rattle.std.specs.Str.{bytes_eq}
use Rattle.stil_program.proofs.AnswerLemmas.{no_fault}
use Rattle.tester_types.specs.Outside.{HasRisen, Files}
use Rattle.stil_ast.specs.declared.blocks.Blocks.{Blocks}
use Rattle.stil_ast.specs.declared.fault.StilFault.{StilFault}
use Rattle.stil_ast.specs.Faults.FrontFaults.{Front, refused_by, read_as, too_many_at}
use Rattle.stil_program.specs.Program.{IsTextFault}
use Rattle.stil_program.proofs.FaultLemmas.{one_text_fault}
use Rattle.flat_parts.specs.FlatText.{flat_text}
use Rattle.stil_program.proofs.FrontLemmas.{one_front}
use Rattle.text_commands.specs.declared.command.Command.{Command}
use Rattle.text_commands.specs.declared.command.Command.TheVariants.{Check, Cycles, Events, Save, Flat}
use Rattle.tool_inputs.specs.declared.status.Status.{Status}
use Rattle.tool_inputs.specs.declared.status.Status.TheVariants.{Done, Usage, ReadFault, WriteFault, RefusedStil, RefusedNet, RefusedPlan, TooFewSockets, OutOfMemory, TooLong, RefusedSaved, TooFlat, NoDie, TapeTooLong}
use Rattle.tool_inputs.specs.Endings.{limit, IsFile, Answers, IsThere, IsDone}
use Rattle.text_commands.specs.Commands.{command_word, IsListed, IsListing, HasTooMany, IsRefusedBy, IsWrittenTooLong, IsWrittenTooFlat, BytesWant, FileWants, IsAccepted}
use Rattle.text_commands.specs.Commands.FileWants.{of_bytes, unread, too_long, no_memory}
use Rattle.tool_inputs.proofs.FileLemmas.{same_bytes, not_lacking, not_too_long}

-- the command of a word, and that each command's word is its own
abbrev command_of : List ℕ → Option Command
command_of word = find (λ (c : Command). bytes_eq (command_word c) word) (Check ∷ Cycles ∷ Events ∷ Save ∷ Flat ∷ [])

of_its_word : (c : Command) → command_of (command_word c) ≡ Some c
of_its_word Check = refl
of_its_word Cycles = refl
of_its_word Events = refl
of_its_word Save = refl
of_its_word Flat = refl

pub one_command : (c d : Command) → command_word c ≡ command_word d → c ≡ d
one_command c d is = let both : Some c ≡ Some d = sym (of_its_word c) ∙ ap command_of is ∙ of_its_word d in cc

-- ---- a text that is accepted isn't refused

accepted_fault : (command : Command) (bytes : List ℕ) → IsAccepted command bytes → IsTextFault bytes None
accepted_fault Check bytes accepted = accepted
accepted_fault Cycles bytes accepted = no_fault bytes accepted.0 accepted.1.text
accepted_fault Events bytes accepted = no_fault bytes accepted.0 accepted.1.text
accepted_fault Save bytes accepted = accepted.0
accepted_fault Flat bytes accepted = accepted.0

few_of : (command : Command) (bytes : List ℕ) → IsListing command → IsAccepted command bytes → (blocks : Blocks) × IsListed bytes blocks
few_of Check bytes lists accepted = absurd lists
few_of Cycles bytes lists accepted = accepted
few_of Events bytes lists accepted = accepted
few_of Save bytes lists accepted = absurd lists
few_of Flat bytes lists accepted = absurd lists

-- what is read, where it isn't refused
abbrev blocks_or : Blocks → Front → Blocks
blocks_or none (refused_by fault) = none
blocks_or none (read_as blocks) = blocks

not_many : (bytes : List ℕ) (fault : StilFault) (blocks : Blocks) → IsListed bytes blocks → HasTooMany bytes fault → ⊥
not_many bytes fault blocks listed many =
    let same : blocks ≡ many.blocks =
    ap (blocks_or blocks) (one_front bytes (read_as blocks) (read_as many.blocks) listed.text.read many.text.read) in
    let few : too_many_at many.blocks ≡ None = subst (λ (b : Blocks). too_many_at b ≡ None) same listed.few in
    cc

not_refused : (command : Command) (bytes : List ℕ) (fault : StilFault) → IsAccepted command bytes → IsRefusedBy command bytes fault → ⊥
not_refused command bytes fault accepted (inl is) =
    let same = one_text_fault bytes (Some fault) None is (accepted_fault command bytes accepted) in cc
not_refused command bytes fault accepted (inr many) =
    let listed = few_of command bytes many.0 accepted in
    not_many bytes fault listed.0 listed.1 many.1

not_long : (command : Command) (bytes : List ℕ) → IsAccepted command bytes → IsWrittenTooLong command bytes → ⊥
not_long Check bytes accepted long = long.long
not_long Cycles bytes accepted long = long.long
not_long Events bytes accepted long = long.long
not_long Save bytes accepted long =
    let few = accepted.1 long.code long.is long.whole in let more = long.long in omega (arith, few, more)
not_long Flat bytes accepted long =
    let few = (accepted.1 long.code long.is long.whole).short in let more = long.long in omega (arith, few, more)

not_flat : (command : Command) (bytes : List ℕ) → IsAccepted command bytes → IsWrittenTooFlat command bytes → ⊥
not_flat Check bytes accepted flat = let wrong = flat.flattens in cc
not_flat Cycles bytes accepted flat = let wrong = flat.flattens in cc
not_flat Events bytes accepted flat = let wrong = flat.flattens in cc
not_flat Save bytes accepted flat = let wrong = flat.flattens in cc
not_flat Flat bytes accepted flat =
    let is = flat.flat in
    let same = one_text_fault (flat_text flat.code) (Some is.fault) None is.first
    (accepted.1 flat.code flat.is flat.whole).fine in cc

bytes_done : (command : Command) (file bytes : List ℕ) (status : Status) (text : List ℕ) → IsAccepted command bytes
    → BytesWant command file bytes status text → IsDone status
bytes_done command file bytes Done text accepted want = inl refl
bytes_done command file bytes OutOfMemory text accepted want = inr refl
bytes_done command file bytes RefusedStil text accepted want = absurd (not_refused command bytes want.0 accepted want.1)
bytes_done command file bytes TooLong text accepted want = absurd (not_long command bytes accepted want.0)
bytes_done command file bytes TooFlat text accepted want = absurd (not_flat command bytes accepted want.0)
bytes_done command file bytes Usage text accepted want = absurd want
bytes_done command file bytes ReadFault text accepted want = absurd want
bytes_done command file bytes WriteFault text accepted want = absurd want
bytes_done command file bytes RefusedNet text accepted want = absurd want
bytes_done command file bytes RefusedPlan text accepted want = absurd want
bytes_done command file bytes TooFewSockets text accepted want = absurd want
bytes_done command file bytes RefusedSaved text accepted want = absurd want
bytes_done command file bytes NoDie text accepted want = absurd want
bytes_done command file bytes TapeTooLong text accepted want = absurd want

pub file_done : (command : Command) (file there : List ℕ) (told : Option Files) (before now : ℕ) (status : Status) (text : List ℕ)
    → IsThere told file there → length there ≤ limit → IsAccepted command there → (HasRisen before now → ⊥)
    → FileWants command file told before now status text → IsDone status
file_done command file there told before now status text is fits accepted steady (of_bytes bytes file_is want) =
    bytes_done command file there status text accepted
    (subst (λ (bs : List ℕ). BytesWant command file bs status text) (same_bytes told file bytes there file_is.are is) want)
file_done command file there told before now status text is fits accepted steady (unread same failed line) =
    absurd (not_lacking told before now file there is steady failed)
file_done command file there told before now status text is fits accepted steady (too_long same long line) =
    absurd (not_too_long told file there is fits long)
file_done command file there told before now status text is fits accepted steady (no_memory same line) = inr same

-- what is wanted of bytes is wanted of their file
pub file_answers : (command : Command) (file bytes seen : List ℕ) (told : Option Files) (before now : ℕ)
    (held held' : Option (List ℕ)) (faults faults' : ℕ) (result : Status) → IsFile told file bytes → seen ≡ bytes
    → Answers (BytesWant command file seen) held faults result held' faults'
    → Answers (FileWants command file told before now) held faults result held' faults'
file_answers command file bytes seen told before now held held' faults faults' result is same a = record {
  status = a.status;
  text = a.text;
  wanted = of_bytes bytes is (subst (λ (bs : List ℕ). BytesWant command file bs a.status a.text) same a.wanted);
  ends = a.ends;
}
