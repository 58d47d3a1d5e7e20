-- What is wanted of a text is wanted of a command, as the passes and the sink answer.
use Rattle.std.proofs.Common.{◌≡◌, ◌⊎◌, ℕ, ◌<◌, ◌≤◌, List, [], ◌∷◌, ◌++◌, length, map, Option, Some, refl, sym, ap, ◌∙◌, subst, arith, inl, inr}
use Rattle.std.proofs.lemmas.List.{length-map}
use Rattle.tester_types.specs.Outside.{HasRisen, gained, GainsFront}
use Rattle.tester_types.proofs.OutsideLemmas.{gained-gained, gained-none, front_behind}
use Rattle.stil_ast.specs.Meaning.Signals.{Signal, names_of as text_names}
use Rattle.stil_ast.specs.declared.executive.ExecDecl.{ExecDecl}
use Rattle.stil_ast.specs.Data.Refusal.{StilRefusal}
use Rattle.answers.specs.declared.short.Short.TheVariants.{NoMemory, Fault}
use Rattle.packed_code.specs.Program.{Program}
use Rattle.packed_code.specs.Conditions.{IsProgram}
use Rattle.packed_code.specs.declared.parts.CodeSignal.{CodeSignal}
use Rattle.cycle_comp.specs.Compiled.{signal_of}
use Rattle.code_listing.specs.Lines.{AreFirstLines, GainsLines}
use Rattle.code_listing.specs.Listing.{listing_of}
use Rattle.code_listing.specs.Text.{names_of, cycles_among, events_text}
use Rattle.code_listing.proofs.ListingLemmas.{length-listing}
use Rattle.stil_program.specs.Program.{IsRefusal, IsProgramOf, IsCompiledText}
use Rattle.flat_stil.specs.FlatFault.{IsBeyondLimits, IsCause}
use Rattle.flat_stil.specs.declared.fault.FlatFault.{FlatFault}
use Rattle.flat_stil.specs.declared.fault.FlatFault.TheVariants as fault
use Rattle.stil_program.proofs.ProgramLemmas.{execs_are}
use Rattle.text_commands.specs.declared.command.Command.{Command}
use Rattle.text_commands.specs.declared.command.Command.TheVariants.{Events, Flat}
use Rattle.tool_inputs.specs.declared.status.Status.{Status}
use Rattle.tool_inputs.specs.declared.status.Status.TheVariants.{Done, Usage, ReadFault, WriteFault, RefusedStil, RefusedNet, RefusedPlan, TooFewSockets, OutOfMemory, TooLong, RefusedSaved, TooFlat, NoDie, TapeTooLong}
use Rattle.text_commands.specs.Commands.{BytesWant}
use Rattle.tool_inputs.specs.Endings.{Ends, Answers, memory_line}
use Rattle.text_commands.specs.Commands.Wanting.{at_once, behind}
use Rattle.text_commands.specs.FlatWants.{FlatWant, flat_status, flat_line}
use Rattle.text_commands.specs.TextListing.{signal_names}
use Rattle.text_commands.specs.FewCycles.{Crosses, IsListedCode, IsListRefused, IsToldOf}
use Rattle.tool_inputs.specs.Refusals.{stil_status, stil_line}
use Rattle.text_commands.proofs.ListedLemmas.{listing-same}
use Rattle.text_commands.proofs.FewLemmas.{few-listed, many-listed}
use Rattle.tool_inputs.proofs.InputLemmas.{wide-risen}

-- ---- why a text is refused

-- by its first fault
pub want_refused : (command : Command) (file bytes : List ℕ) (r : StilRefusal) → (r ≡ NoMemory) ⊎ IsRefusal bytes r
    → BytesWant command file bytes (stil_status r) (stil_line r)
want_refused command file bytes r (inl none) =
    subst (λ (e : StilRefusal). BytesWant command file bytes (stil_status e) (stil_line e)) (sym none) (at_once refl)
want_refused command file bytes r (inr is) =
    subst (λ (e : StilRefusal). BytesWant command file bytes (stil_status e) (stil_line e)) (sym is.is) (is.fault, inl is.first, refl)

-- ---- what a code lists

signals-named : (signals : List Signal) → map (λ (s : CodeSignal). s.name) (map signal_of signals) ≡ map (λ (s : Signal). s.text) signals
signals-named [] = refl
signals-named (s ∷ signals) = ap (λ (names : List (List ℕ)). s.text ∷ names) (signals-named signals)

-- the code of a text with few cycles lists what the text does
pub few_listed : (bytes : List ℕ) (code : Program) (lines : List ℕ) → IsCompiledText bytes code lines → cycles_among code.execs ≤ 65536
    → IsListedCode bytes code
few_listed bytes code lines is few = record {
  blocks = is.blocks;
  listed = record { text = is.text; few = few-listed is.blocks code is.compiled few };
  listing = listing-same is.blocks code is.compiled;
  names = ap (map (λ (s : CodeSignal). s.name)) is.compiled.code_is.signals ∙ signals-named (text_names is.blocks).signals;
  few = omega (arith, few, length-listing code);
}

-- what is told of too many cycles is the text's fault
pub told_many : (bytes : List ℕ) (code : Program) (lines : List ℕ) (exec : ℕ) (r : StilRefusal) → IsCompiledText bytes code lines
    → Crosses code exec → IsToldOf code lines exec r → IsListRefused bytes r
told_many bytes code lines exec NoMemory is crosses told = tt
told_many bytes code lines exec (Fault fault) is crosses told = inr (record {
  blocks = is.blocks;
  text = is.text;
  many = many-listed is.blocks code is.compiled exec lines is.lines_are crosses ∙ ap Some (sym told);
})

-- there is a line for each executive
pub line_there : (bytes : List ℕ) (code : Program) (lines : List ℕ) (exec : ℕ) → IsCompiledText bytes code lines
    → exec < length code.execs → exec < length lines
line_there bytes code lines exec is within =
    let long = ap length is.lines_are ∙ length-map is.blocks.executives (λ (e : ExecDecl). e.line) in
    omega (arith, within, long, execs_are is.blocks code is.compiled)

-- ---- how a run ends

-- the line of want of memory behind what was put
pub ends_behind : (held before now : Option (List ℕ)) (faults between faults' : ℕ) (lines line : List ℕ) (status result : Status)
    → before ≡ gained held lines → faults ≤ between
    → Ends before between status line result now faults' → Ends held faults status (lines ++ line) result now faults'
ends_behind held before now faults between faults' lines line status result put low last =
    record { ends = by last.ends; count = omega (arith, low, last.count) }
  where
    by : ((result ≡ status) × (now ≡ gained before line)) ⊎ ((result ≡ WriteFault) × GainsFront before line now × HasRisen between faults')
        → ((result ≡ status) × (now ≡ gained held (lines ++ line)))
        ⊎ ((result ≡ WriteFault) × GainsFront held (lines ++ line) now × HasRisen faults faults')
    by (inl (same, is)) = inl (same, is ∙ ap (λ was. gained was line) put ∙ gained-gained held lines line)
    by (inr (same, front, risen)) = inr (
      same,
      front_behind held now lines line (subst (λ (was : Option (List ℕ)). GainsFront was line now) put front),
      wide-risen faults between faults' faults' low last.count (omega arith) risen,
    )

-- the same where nothing was put
pub ends_same : (held before now : Option (List ℕ)) (faults between faults' : ℕ) (line : List ℕ) (status result : Status)
    → before ≡ held → faults ≤ between
    → Ends before between status line result now faults' → Ends held faults status line result now faults'
ends_same held before now faults between faults' line status result same low last =
    ends_behind held before now faults between faults' [] line status result (same ∙ sym (gained-none held)) low last

-- want of memory behind the first lines of events
pub events_wanting : (file bytes : List ℕ) (code : Program) (held before now : Option (List ℕ)) (faults between faults' : ℕ) (result : Status)
    → IsListedCode bytes code → GainsLines held (events_text (names_of code) (listing_of code)) before → faults ≤ between
    → Ends before between OutOfMemory memory_line result now faults' → Answers (BytesWant Events file bytes) held faults result now faults'
events_wanting file bytes code held before now faults between faults' result is (lines, first, put) low last =
    let text = ap (λ names. events_text names (listing_of code)) is.names ∙ ap (events_text (signal_names is.blocks)) is.listing in
    record {
      status = OutOfMemory;
      text = lines ++ memory_line;
      wanted = behind refl is.blocks is.listed lines
          (subst (λ (whole : List ℕ). AreFirstLines whole lines) text first) refl;
      ends = ends_behind held before now faults between faults' lines memory_line OutOfMemory result put low last;
    }

-- ---- a flat text

-- what is wanted of a code is wanted of the bytes that it is of
want_flat : (file bytes : List ℕ) (code : Program) (status : Status) (text : List ℕ) → IsProgramOf bytes code
    → FlatWant file code status text → BytesWant Flat file bytes status text
want_flat file bytes code Done text is want = (code, is, want.0, want.1)
want_flat file bytes code OutOfMemory text is want = at_once want
want_flat file bytes code TooLong text is want = (record { code = code; is = is; whole = want.1; long = want.0 }, want.2)
want_flat file bytes code TooFlat text is want =
    (record { flattens = refl; code = code; is = is; whole = want.2; flat = want.0; limit = want.1 }, want.3)
want_flat file bytes code Usage text is want = absurd want
want_flat file bytes code ReadFault text is want = absurd want
want_flat file bytes code WriteFault text is want = absurd want
want_flat file bytes code RefusedStil text is want = absurd want
want_flat file bytes code RefusedNet text is want = absurd want
want_flat file bytes code RefusedPlan text is want = absurd want
want_flat file bytes code TooFewSockets text is want = absurd want
want_flat file bytes code RefusedSaved text is want = absurd want
want_flat file bytes code NoDie text is want = absurd want
want_flat file bytes code TapeTooLong text is want = absurd want

pub flat_answers : (file bytes : List ℕ) (code : Program) (held held' : Option (List ℕ)) (faults faults' : ℕ) (result : Status)
    → IsProgramOf bytes code → Answers (FlatWant file code) held faults result held' faults'
    → Answers (BytesWant Flat file bytes) held faults result held' faults'
flat_answers file bytes code held held' faults faults' result is a = record {
  status = a.status;
  text = a.text;
  wanted = want_flat file bytes code a.status a.text is a.wanted;
  ends = a.ends;
}

-- the status and the line of a fault are wanted
pub want_fault : (file : List ℕ) (code : Program) (f : FlatFault) → IsProgram code → IsCause code f → IsBeyondLimits code
    → FlatWant file code (flat_status f) (flat_line file f)
want_fault file code fault.NoMemory whole cause limit = refl
want_fault file code fault.TooLong whole cause limit = (cause, whole, refl)
want_fault file code fault.TooFlat whole cause limit = (cause, limit, whole, refl)
