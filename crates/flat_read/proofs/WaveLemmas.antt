-- The waves of a table are read as they are.
use Rattle.std.proofs.Common.{◌≡◌, ℕ, ◌+◌, ◌≤◌, ◌<◌, Bool, true, false, List, [], ◌∷◌, length, Option, Some, None, Result, Ok, Err, refl, ap, ◌∙◌, arith, cond, length-append}
use Rattle.std.specs.List.{AllByRecursion, AllZip}
use Rattle.std.specs.Option.{option_and_then}
use Rattle.std.proofs.lemmas.Bool.{lt-ltb}
use Rattle.text_bytes.specs.Bytes.{is_character}
use Rattle.text_bytes.specs.Limits.{most_events}
use Rattle.tester_types.specs.declared.wave.Act.{Act}
use Rattle.tester_types.specs.declared.wave.Act.TheVariants as act
use Rattle.tester_types.specs.declared.wave.Push.TheVariants as push
use Rattle.tester_types.specs.declared.wave.Look.TheVariants as look
use Rattle.tester_types.specs.declared.wave.Event.{Event}
use Rattle.tester_types.specs.declared.wave.Wave.{Wave}
use Rattle.stil_lex.specs.declared.token.Token.{Token}
use Rattle.stil_tree.specs.Trees.{Entry, entries}
use Rattle.answers.specs.Reading.{and_then, reading}
use Rattle.stil_form.specs.declared.fault.FormFault.{FormFault}
use Rattle.stil_form.specs.declared.fault.FormKind.{FormKind}
use Rattle.stil_form.specs.declared.fault.FormKind.TheVariants.{Shape, OutOfRange}
use Rattle.stil_form.specs.Lexeme.{Lexeme, word}
use Rattle.stil_form.specs.Fronts.{Ref, named, behind_name, reference_front}
use Rattle.stil_form.specs.Words.{fits_name}
use Rattle.stil_form.specs.Setting.{setting, line_at, at_statement, unskipped}
use Rattle.stil_ast.specs.declared.timing.EventDecl.{EventDecl}
use Rattle.stil_ast.specs.declared.timing.WaveDecl.{WaveDecl}
use Rattle.stil_ast.specs.declared.timing.SignalWaves.{SignalWaves}
use Rattle.pat_read.specs.References.{ref_of}
use Rattle.timing_blocks.specs.Waveforms.{time_of, acts_of, event_at, new_event, judge_event, are_wave_characters, characters_of, characters_at, judge_wave, lone_ref, ref_at, judge_signal, signals_of, in_block}
use Rattle.packed_code.specs.Program.{Program}
use Rattle.line_texts.specs.Said.{Said, no_more, braced, blank, spaced, pieces_of, count_of, trees_at, each_said}
use Rattle.line_texts.specs.Said as spoken
use Rattle.line_texts.proofs.SettingLemmas.{unskipped_all}
use Rattle.line_texts.proofs.StandingLemmas.{Stands, unspaced, statement_head, behind_statement, braced_head, inside_braced, behind_braced}
use Rattle.flat_parts.specs.FlatText.{name_of, act_letter}
use Rattle.flat_parts.specs.FlatBlocks.{signal_called, time_text, IsEventDecl, IsSignalWaves}
use Rattle.flat_said.specs.FlatSaid.{event_said, wave_said}
use Rattle.flat_read.proofs.HeadLemmas.{lone_name, text_word}
use Rattle.flat_read.proofs.NameLemmas.{named_is}
use Rattle.flat_read.proofs.ReadingLemmas.{each_from, IsForm, reading_each, zip_all}

-- ---- events

-- an event
abbrev pub event_decl : List Token → ℕ → Event → EventDecl
event_decl tokens at event = event_at (time_text event.time) (line_at tokens at) (event.act ∷ [])

abbrev pub event_entry : ℕ → Event → Entry
event_entry at event = record { first = at; count = 2; body = None }

abbrev pub event_next : ℕ → Event → ℕ
event_next at event = at + 2 + 1

-- an act is read by its letter
act_read : (does : Act) → acts_of (word (act_letter does) ∷ []) ≡ Ok (does ∷ [])
act_read (act.Push push.Down) = refl
act_read (act.Push push.Up) = refl
act_read (act.Push push.Off) = refl
act_read (act.Push push.Unknown) = refl
act_read (act.Push push.Prior) = refl
act_read (act.Look look.Low) = refl
act_read (act.Look look.High) = refl
act_read (act.Look look.Off) = refl
act_read (act.Look look.LowWindow) = refl
act_read (act.Look look.HighWindow) = refl
act_read (act.Look look.OffWindow) = refl
act_read (act.Look look.Close) = refl

-- an event is read behind others
event_read : (bytes : List ℕ) (tokens : List Token) (before : List EventDecl) (at : ℕ) (event : Event) (more : Said)
    → length before < most_events → Stands bytes tokens at (event_said event more)
    → judge_event (setting bytes tokens []) 1 before (event_entry at event) ≡ Ok (event_decl tokens at event)
event_read bytes tokens before at event more room stands =
    let line = line_at tokens at in
    let time = time_text event.time in
    ap (λ (ls : List Lexeme). and_then (at_statement at (time_of ls)) (λ said. and_then (at_statement at (acts_of said.1)) (λ acts.
    at_statement at (new_event 1 before false (event_at said.0 line acts)))))
    (statement_head stands ∙ text_word time (act_letter event.act))
    ∙ ap (λ (r : Result (List Act) FormKind). and_then (at_statement at r) (λ acts.
    at_statement at (new_event 1 before false (event_at time line acts)))) (act_read event.act)
    ∙ ap (λ (b : Bool). at_statement at (cond b (Ok (event_decl tokens at event)) (Err OutOfRange)))
    (lt-ltb (length before) most_events room)

event_form : (bytes : List ℕ) (tokens : List Token) → IsForm bytes tokens event_said event_entry event_next
event_form bytes tokens = record { front = λ event at more. refl; behind = λ event at more h. unspaced (behind_statement h) }

-- the events of a wave
events_read : (bytes : List ℕ) (tokens : List Token) (events : List Event) (at : ℕ) → length events ≤ most_events
    → Stands bytes tokens at (each_said event_said events no_more)
    → reading (judge_event (setting bytes tokens []) 1) [] (entries (trees_at at (each_said event_said events no_more)))
    ≡ Ok (each_from (event_decl tokens) event_next at events)
events_read bytes tokens events at few stands =
    reading_each bytes tokens event_said event_entry event_next (event_form bytes tokens) (judge_event (setting bytes tokens []) 1)
    (event_decl tokens) (λ before left. length before + length left ≤ most_events)
    (λ before place event left more fit here. (
      event_read bytes tokens before place event more (omega (arith, fit)) here,
      omega (arith, fit, length-append before (event_decl tokens place event ∷ [])),
    ))
    events [] at (omega (arith, few)) stands

-- ---- waves

-- the statements in a wave
abbrev pub wave_inside : Wave → Said
wave_inside wave =
    spaced (braced (spoken.word (wave.character ∷ []) ∷ blank ∷ []) (spaced (each_said event_said wave.events no_more)) (spaced no_more))

abbrev pub wave_entry : ℕ → Wave → Entry
wave_entry at wave = record { first = at; count = 1; body = Some (trees_at (at + 1 + 1) (wave_inside wave)) }

abbrev pub wave_next : ℕ → Wave → ℕ
wave_next at wave = at + 1 + 1 + count_of (pieces_of (wave_inside wave)) + 1

-- its events
abbrev pub wave_events : List Token → ℕ → Wave → List EventDecl
wave_events tokens at wave = each_from (event_decl tokens) event_next (at + 1 + 1 + 1 + 1) wave.events

-- a wave
abbrev pub wave_decl : Program → List Token → ℕ → Wave → SignalWaves
wave_decl code tokens at wave = record {
  reference = signal_called (name_of code wave.signal);
  waves = record { characters = wave.character ∷ []; events = wave_events tokens at wave } ∷ [];
  line = line_at tokens at;
}

-- a wave of a signal that there is, of a character, with as many events as it may have
pub record WaveFits (code : Program) (wave : Wave) : Type 0 where
  pub called : fits_name (name_of code wave.signal) ≡ true
  pub character : is_character wave.character ≡ true
  pub few : length wave.events ≤ most_events

-- one character
one_character : (c : ℕ) → is_character c ≡ true → are_wave_characters (c ∷ []) ≡ true
one_character c h = rw h refl

-- what its character does
character_read : (bytes : List ℕ) (tokens : List Token) (f : ℕ) (wave : Wave) → is_character wave.character ≡ true
    → length wave.events ≤ most_events
    → Stands bytes tokens f (wave_inside wave)
    → reading (judge_wave (setting bytes tokens [])) [] (entries (trees_at f (wave_inside wave)))
    ≡ Ok (record { characters = wave.character ∷ []; events = each_from (event_decl tokens) event_next (f + 1 + 1) wave.events } ∷ [])
character_read bytes tokens f wave character few stands =
    let s = setting bytes tokens [] in
    let one = unspaced stands in
    let inside = trees_at (f + 1 + 1) (each_said event_said wave.events no_more) in
    let e : Entry = record { first = f; count = 1; body = Some inside } in
    let events = each_from (event_decl tokens) event_next (f + 1 + 1) wave.events in
    let characters : characters_at s e ≡ Ok (wave.character ∷ []) =
    ap (λ (ls : List Lexeme). at_statement f (characters_of ls)) (braced_head one)
    ∙ ap (λ (b : Bool). at_statement f (cond b (Ok (wave.character ∷ [])) (Err Shape))) (one_character wave.character character) in
    let read : reading (judge_event s 1) [] (unskipped s (entries inside)) ≡ Ok events =
    ap (λ (es : List Entry). reading (judge_event s 1) [] es) (unskipped_all bytes tokens (entries inside))
    ∙ events_read bytes tokens wave.events (f + 1 + 1) few (unspaced (inside_braced one)) in
    let judged : judge_wave s [] e ≡ Ok (record { characters = wave.character ∷ []; events = events }) =
    ap (λ (r : Result (List ℕ) FormFault). and_then r (λ cs.
    and_then (reading (judge_event s (length cs)) [] (unskipped s (entries inside))) (λ all.
    Ok (record { characters = cs; events = all })))) characters
    ∙ ap (λ (r : Result (List EventDecl) FormFault). and_then r (λ all. Ok (record { characters = wave.character ∷ []; events = all }))) read in
    ap (λ (r : Result WaveDecl FormFault). and_then r (λ w. Ok (w ∷ []))) judged

-- a wave is read behind others
wave_read : (code : Program) (bytes : List ℕ) (tokens : List Token) (before : List SignalWaves) (at : ℕ) (wave : Wave) (more : Said)
    → WaveFits code wave → Stands bytes tokens at (wave_said code wave more)
    → judge_signal (setting bytes tokens []) before (wave_entry at wave) ≡ Ok (wave_decl code tokens at wave)
wave_read code bytes tokens before at wave more fits stands =
    let s = setting bytes tokens [] in
    let called = name_of code wave.signal in
    let e = wave_entry at wave in
    let line = line_at tokens at in
    let inner = unskipped s (entries (trees_at (at + 1 + 1) (wave_inside wave))) in
    let reference : ref_at s e ≡ Ok (named called None) =
    ap (λ (ls : List Lexeme). at_statement at (in_block true (lone_ref (reference_front ls)))) (braced_head stands ∙ lone_name called)
    ∙ ap (λ (o : Option (List ℕ)). at_statement at (in_block true (lone_ref (option_and_then (behind_name []) o))))
    (named_is called fits.called) in
    let waves : reading (judge_wave s) [] inner ≡ Ok (record { characters = wave.character ∷ []; events = wave_events tokens at wave } ∷ []) =
    ap (λ (es : List Entry). reading (judge_wave s) [] es) (unskipped_all bytes tokens (entries (trees_at (at + 1 + 1) (wave_inside wave))))
    ∙ character_read bytes tokens (at + 1 + 1) wave fits.character fits.few (inside_braced stands) in
    ap (λ (r : Result Ref FormFault). and_then r (λ found. and_then (at_statement at (ref_of line found)) (λ reference.
    and_then (reading (judge_wave s) [] inner) (λ ws. Ok (record { reference = reference; waves = ws; line = line }))))) reference
    ∙ ap (λ (r : Result (List WaveDecl) FormFault). and_then r (λ ws.
    Ok (record { reference = signal_called called; waves = ws; line = line }))) waves

wave_form : (code : Program) (bytes : List ℕ) (tokens : List Token) → IsForm bytes tokens (wave_said code) wave_entry wave_next
wave_form code bytes tokens = record { front = λ wave at more. refl; behind = λ wave at more h. unspaced (behind_braced h) }

-- the waves of a table
pub waves_read : (code : Program) (bytes : List ℕ) (tokens : List Token) (waves : List Wave) (at : ℕ) → AllByRecursion (WaveFits code) waves
    → Stands bytes tokens at (each_said (wave_said code) waves no_more)
    → signals_of (setting bytes tokens []) (entries (trees_at at (each_said (wave_said code) waves no_more)))
    ≡ Ok (each_from (wave_decl code tokens) wave_next at waves)
waves_read code bytes tokens waves at fits stands =
    let s = setting bytes tokens [] in
    ap (λ (es : List Entry). reading (judge_signal s) [] es)
    (unskipped_all bytes tokens (entries (trees_at at (each_said (wave_said code) waves no_more))))
    ∙ reading_each bytes tokens (wave_said code) wave_entry wave_next (wave_form code bytes tokens) (judge_signal s)
    (wave_decl code tokens) (λ before left. AllByRecursion (WaveFits code) left)
    (λ before place wave left more fit here. (wave_read code bytes tokens before place wave more fit.0 here, fit.1))
    waves [] at fits stands

-- each is the wave
pub waves_are : (code : Program) (tokens : List Token) (waves : List Wave) (at : ℕ)
    → AllZip (IsSignalWaves code) waves (each_from (wave_decl code tokens) wave_next at waves)
waves_are code tokens waves at =
    zip_all (IsSignalWaves code) (wave_decl code tokens) wave_next
    (λ f wave. record {
      reference = refl;
      events = wave_events tokens f wave;
      waves = refl;
      each = zip_all IsEventDecl (event_decl tokens) event_next (λ k event. refl) wave.events (f + 1 + 1 + 1 + 1);
    }) waves at
