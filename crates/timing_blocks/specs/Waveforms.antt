-- Waveforms: what a table says of signals by their waveform characters (IEEE 1450-1999, clause 18).
use Rattle.std.specs.Prelude.{ℕ, ◌==◌, ◌%◌, ◌&&◌, ◌||◌, not, nat_eq, nat_lt, Bool, true, false, List, [], ◌∷◌, length, map, zip, filter, Option, Some, None, is_some, Result, Ok, Err, if◌then◌else◌}
use Rattle.std.specs.List.{list_all, list_any, enumerate_from, filter_map}
use Rattle.text_bytes.specs.Bytes.{is_character}
use Rattle.text_bytes.specs.Limits.{most_events}
use Rattle.answers.specs.Reading.{and_then, reading}
use Rattle.tester_types.specs.declared.wave.Act.{Act}
use Rattle.tester_types.specs.Acts.{act_names}
use Rattle.stil_tree.specs.Trees.{Entry}
use Rattle.stil_form.specs.declared.fault.FormFault.{FormFault}
use Rattle.stil_form.specs.declared.fault.FormKind.{FormKind}
use Rattle.stil_form.specs.declared.fault.FormKind.TheVariants.{Shape, LeftOut, OutOfRange}
use Rattle.stil_form.specs.declared.part.SignKind.TheVariants.{Slash}
use Rattle.stil_form.specs.Lexeme.{Lexeme, word, text, sign}
use Rattle.stil_form.specs.Fronts.{Ref, reference_front}
use Rattle.stil_form.specs.Setting.{Setting, lexemes_at, line_at, at_statement, inner_of, unskipped}
use Rattle.pat_read.specs.References.{ref_of}
use Rattle.block_forms.specs.Keywords.{meaning}
use Rattle.stil_ast.specs.Data.Forms.{all_differ}
use Rattle.stil_ast.specs.declared.timing.EventDecl.{EventDecl}
use Rattle.stil_ast.specs.declared.timing.WaveDecl.{WaveDecl}
use Rattle.stil_ast.specs.declared.timing.SignalWaves.{SignalWaves}

-- the act that a token is
abbrev pub act_of : Lexeme → Option Act
act_of one = meaning act_names one

-- the sign `/`
abbrev pub is_slash : Lexeme → Bool
is_slash (sign Slash) = true
is_slash _ = false

-- each token beside the one before it; in front of the first one a `/` is thought
abbrev pub beside_earlier : List Lexeme → List (Lexeme × Lexeme)
beside_earlier parts = zip (sign Slash ∷ parts) parts

-- the tokens at the places of acts: the first one, and each behind a `/`
abbrev pub act_places : List Lexeme → List Lexeme
act_places parts =
    map (λ (pair : Lexeme × Lexeme). pair.1)
    (filter (λ (pair : Lexeme × Lexeme). is_slash pair.0) (beside_earlier parts))

-- some token at the place of an act is none
abbrev pub lacks_act : List Lexeme → Bool
lacks_act parts = list_any (λ one. not (is_some (act_of one))) (act_places parts)

-- an act at an even index, and a `/` at an odd one
abbrev pub fits_index : ℕ × Lexeme → Bool
fits_index part = if part.0 % 2 == 0 then is_some (act_of part.1) else is_slash part.1

-- acts with a `/` between each two
abbrev pub alternate : List Lexeme → Bool
alternate parts = list_all fits_index (enumerate_from 0 parts) && length parts % 2 == 1

-- `act` or `act/act/..`; a token at an act's place that is none is left out, whatever else stands there
abbrev pub acts_of : List Lexeme → Result (List Act) FormKind
acts_of parts =
    if lacks_act parts then Err LeftOut else if alternate parts then Ok (filter_map act_of parts) else Err Shape

-- the text with which an event begins, and what stands behind it
abbrev pub time_of : List Lexeme → Result (List ℕ × List Lexeme) FormKind
time_of (text time ∷ rest) = Ok (time, rest)
time_of _ = Err LeftOut

-- an event at a time that is written on this line
abbrev pub event_at : List ℕ → ℕ → List Act → EventDecl
event_at time line acts = record { time = record { text = time; line = line }; acts = acts }

-- one act for so many characters, or one for each, and no block; and a waveform has room for one more event
abbrev pub new_event : ℕ → List EventDecl → Bool → EventDecl → Result EventDecl FormKind
new_event characters before has_block event =
    if not has_block && (length event.acts == 1 || length event.acts == characters)
    then (if nat_lt (length before) most_events then Ok event else Err OutOfRange)
    else Err Shape

-- `Text act;` or `Text act/act/..;`: an event of a waveform of so many characters
abbrev pub judge_event : Setting → ℕ → List EventDecl → Entry → Result EventDecl FormFault
judge_event s characters before e =
    and_then (at_statement e.first (time_of (lexemes_at s e))) (λ said.
    and_then (at_statement e.first (acts_of said.1)) (λ acts.
    at_statement e.first
    (new_event characters before (is_some e.body) (event_at said.0 (line_at s.tokens e.first) acts))))

-- waveform characters: at least one letter or digit, none twice
abbrev pub are_wave_characters : List ℕ → Bool
are_wave_characters bytes = nat_lt 0 (length bytes) && list_all is_character bytes && all_differ nat_eq bytes

-- the waveform characters that a head is
abbrev pub characters_of : List Lexeme → Result (List ℕ) FormKind
characters_of (word bytes ∷ []) = if are_wave_characters bytes then Ok bytes else Err Shape
characters_of _ = Err Shape

-- a statement without a block is left out, whatever it says
abbrev pub in_block : {X : Type 0} → Bool → Result X FormKind → Result X FormKind
in_block true said = said
in_block false said = Err LeftOut

-- the waveform characters of a statement with a block
abbrev pub characters_at : Setting → Entry → Result (List ℕ) FormFault
characters_at s e = at_statement e.first (in_block (is_some e.body) (characters_of (lexemes_at s e)))

-- `characters { events }`
abbrev pub judge_wave : Setting → List WaveDecl → Entry → Result WaveDecl FormFault
judge_wave s before e =
    and_then (characters_at s e) (λ characters.
    and_then (reading (judge_event s (length characters)) [] (unskipped s (inner_of e.body))) (λ events.
    Ok (record { characters = characters; events = events })))

-- a reference and nothing behind it
abbrev pub lone : Ref → List Lexeme → Result Ref FormKind
lone found [] = Ok found
lone found (one ∷ rest) = Err Shape

-- a reference that is there, and nothing behind it
abbrev pub lone_ref : Option (Ref × List Lexeme) → Result Ref FormKind
lone_ref None = Err Shape
lone_ref (Some found) = lone found.0 found.1

-- the reference of a statement with a block
abbrev pub ref_at : Setting → Entry → Result Ref FormFault
ref_at s e = at_statement e.first (in_block (is_some e.body) (lone_ref (reference_front (lexemes_at s e))))

-- `ref { waveforms }`; its indices are judged behind its form
abbrev pub judge_signal : Setting → List SignalWaves → Entry → Result SignalWaves FormFault
judge_signal s before e =
    and_then (ref_at s e) (λ found.
    and_then (at_statement e.first (ref_of (line_at s.tokens e.first) found)) (λ reference.
    and_then (reading (judge_wave s) [] (unskipped s (inner_of e.body))) (λ waves.
    Ok (record { reference = reference; waves = waves; line = line_at s.tokens e.first }))))

-- what statements of Waveforms say
abbrev pub signals_of : Setting → List Entry → Result (List SignalWaves) FormFault
signals_of s es = reading (judge_signal s) [] (unskipped s es)
