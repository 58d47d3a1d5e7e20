-- A command whose file is there and whose text is accepted is done, where no count rises: `completes`.
use Rattle.std.proofs.Common.{◌≡◌, ◌⊎◌, ℕ, List, [], ◌∷◌, Option, length, sym, ap, ◌∙◌, subst, inl, inr, arith}
use Rattle.tester_types.specs.Outside.{HasRisen, Files, gained, GainsFront}
use Rattle.text_commands.specs.declared.command.Command.{Command}
use Rattle.tool_inputs.specs.declared.status.Status.{Status}
use Rattle.tool_inputs.specs.declared.status.Status.TheVariants.{WriteFault}
use Rattle.tool_inputs.specs.Endings.{Answers, IsThere, IsDone}
use Rattle.text_commands.specs.Commands.{command_word, FileWants, IsAccepted}
use Rattle.stil_tool.specs.Offline.{AreOf, Wants, IsFine}
use Rattle.stil_tool.specs.Offline.Wants.{no_form, of_command, of_dump}
use Rattle.text_commands.proofs.DoneLemmas.{one_command, file_done}

-- ---- the words say one command and one file

abbrev head_of : List (List ℕ) → List ℕ
head_of [] = []
head_of (word ∷ words) = word

abbrev file_word : List (List ℕ) → List ℕ
file_word [] = []
file_word (word ∷ []) = []
file_word (word ∷ file ∷ words) = file

words_done : (words : List (List ℕ)) (told : Option Files) (before now faults faults' : ℕ) (status : Status) (text : List ℕ)
    → IsFine words told before now faults faults' → Wants words told before now status text → IsDone status
words_done words told before now faults faults' status text fine (no_form none same line) = absurd (none (inl (fine.command, fine.file, fine.are)))
words_done words told before now faults faults' status text fine (of_command command file are want) =
    let said : command_word fine.command ≡ command_word command = ap head_of (sym fine.are ∙ are) in
    let named : fine.file ≡ file = ap file_word (sym fine.are ∙ are) in
    file_done command file fine.bytes told before now status text
    (subst (λ (f : List ℕ). IsThere told f fine.bytes) named fine.there) fine.fits
    (subst (λ (c : Command). IsAccepted c fine.bytes) (one_command fine.command command said) fine.accepted) fine.loads want
words_done words told before now faults faults' status text fine (of_dump program plan site are want) =
    let wrong : 2 ≡ 4 = ap (λ (l : List (List ℕ)). length l) (sym fine.are ∙ are.is) in absurd (omega (arith, wrong))

pub completes : (words : List (List ℕ)) (told : Option Files) (before now : ℕ) (held held' : Option (List ℕ)) (faults faults' : ℕ)
    (result : Status) → Answers (Wants words told before now) held faults result held' faults'
    → IsFine words told before now faults faults' → IsDone result
completes words told before now held held' faults faults' result a fine = by a.ends.ends
  where
    by : ((result ≡ a.status) × (held' ≡ gained held a.text)) ⊎ ((result ≡ WriteFault) × GainsFront held a.text held' × HasRisen faults faults')
        → IsDone result
    by (inl whole) = subst IsDone (sym whole.0) (words_done words told before now faults faults' a.status a.text fine a.wanted)
    by (inr front) = absurd (fine.puts front.2)

-- what is wanted of a file is wanted of the words that name it
pub command_answers : (words : List (List ℕ)) (command : Command) (file : List ℕ) (told : Option Files) (before now : ℕ)
    (held held' : Option (List ℕ)) (faults faults' : ℕ) (result : Status) → AreOf words command file
    → Answers (FileWants command file told before now) held faults result held' faults'
    → Answers (Wants words told before now) held faults result held' faults'
command_answers words command file told before now held held' faults faults' result are a = record {
  status = a.status;
  text = a.text;
  wanted = of_command command file are a.wanted;
  ends = a.ends;
}
