-- The signals and the tables of a flat text.
use Rattle.std.proofs.Common.{◌≡◌, ℕ, true, List, [], ◌∷◌, ◌++◌, map, refl, append_assoc, append-nil}
use Rattle.std.specs.Prelude.{codes, decimal}
use Rattle.std.specs.List.{AllByRecursion, flat_map}
use Rattle.text_bytes.specs.Bytes.{is_word, is_character}
use Rattle.text_bytes.proofs.ListLemmas.{all_from}
use Rattle.tester_types.specs.declared.wave.Event.{Event}
use Rattle.tester_types.specs.declared.wave.Wave.{Wave}
use Rattle.stil_lex.specs.Bytes.{double_quote}
use Rattle.packed_code.specs.declared.parts.CodeSignal.{CodeSignal}
use Rattle.packed_code.specs.Program.{Program}
use Rattle.line_texts.specs.Said.{each_said}
use Rattle.flat_parts.specs.FlatText.{with_feed, text_of, name_of, direction_word, act_letter, signal_line, signal_lines, event_item, wave_line}
use Rattle.flat_said.specs.FlatSaid.{signal_said, signals_said, event_said, wave_said}
use Rattle.flat_said.proofs.ListLemmas.{all_any}
use Rattle.flat_said.proofs.SaysLemmas.{Says, says_as, says_then, says_each, says_statement, says_braced, says_space, says_line, heads_nil, heads_blank, heads_text, heads_name_blank, heads_word_blank, heads_last_word, IsQuotable, IsPlainWord, plain_word_is}
use Rattle.flat_said.proofs.WordLemmas.{direction_is, act_is, character_is, time_is}
use Rattle.flat_said.proofs.BlockLemmas.{says_lines, says_line_each}

-- ---- signals

signal_text : (name space direction stop feed : List ℕ)
    → ((name ++ (space ++ (direction ++ []))) ++ stop) ++ feed ≡ (name ++ space ++ direction ++ stop) ++ feed
signal_text name space direction stop feed = simp (append_assoc, append-nil)

-- a signal
pub signal_says : (signal : CodeSignal) → IsQuotable double_quote signal.name → Says (signal_said signal) (with_feed (signal_line signal))
signal_says signal quotable =
    says_as (signal_text (34 ∷ signal.name ++ 34 ∷ []) (32 ∷ []) (direction_word signal.direction) (59 ∷ []) (10 ∷ []))
    (says_then (says_statement (heads_name_blank quotable (heads_last_word (direction_is signal.direction)))) says_line)

signals_word : IsPlainWord (codes "Signals")
unfolding is_word
signals_word = plain_word_is (codes "Signals") refl

-- all signals
pub signals_say : (code : Program) → AllByRecursion (λ signal. IsQuotable double_quote signal.name) code.signals
    → Says (signals_said code) (text_of (signal_lines code))
signals_say code all =
    says_lines (codes "Signals {") (map signal_line code.signals) (heads_word_blank signals_word heads_nil)
    (says_line_each signal_said signal_line code.signals
    (all_from (λ signal. IsQuotable double_quote signal.name) (λ signal. Says (signal_said signal) (with_feed (signal_line signal)))
    signal_says code.signals all))
    refl

-- ---- tables

event_text : (time character : List ℕ)
    → (((39 ∷ (time ++ codes "fs") ++ 39 ∷ []) ++ 32 ∷ (character ++ [])) ++ 59 ∷ []) ++ 32 ∷ []
    ≡ codes "'" ++ time ++ codes "fs' " ++ character ++ codes "; "
event_text time character = simp (append_assoc, append-nil)

-- an event
pub event_says : (event : Event) → Says (event_said event) (event_item event)
event_says event =
    says_as (event_text (decimal event.time) (act_letter event.act))
    (says_then (says_statement (heads_text (time_is event.time) (heads_blank (heads_last_word (act_is event.act))))) says_space)

wave_text : (name space opens character events closes feed : List ℕ)
    → ((name ++ space)
    ++ (opens ++ ((space ++ (((character ++ space) ++ (opens ++ ((space ++ events) ++ closes))) ++ space)) ++ closes))) ++ feed
    ≡ (((name ++ (space ++ (opens ++ space)) ++ (character ++ space)) ++ (opens ++ space))
    ++ (events ++ (closes ++ (space ++ closes)))) ++ feed
wave_text name space opens character events closes feed = simp append_assoc

-- a wave
pub wave_says : (code : Program) (wave : Wave) → IsQuotable double_quote (name_of code wave.signal) → is_character wave.character ≡ true
    → Says (wave_said code wave) (with_feed (wave_line code wave))
wave_says code wave quotable character =
    let events : Says (each_said event_said wave.events) (flat_map event_item wave.events) =
    says_each event_said event_item wave.events (all_any (λ event. Says (event_said event) (event_item event)) event_says wave.events) in
    says_as
    (wave_text (34 ∷ name_of code wave.signal ++ 34 ∷ []) (32 ∷ []) (123 ∷ []) (wave.character ∷ []) (flat_map event_item wave.events)
    (125 ∷ []) (10 ∷ []))
    (says_then
    (says_braced (heads_name_blank quotable heads_nil)
    (says_then says_space
    (says_then (says_braced (heads_word_blank (character_is wave.character character) heads_nil) (says_then says_space events)) says_space)))
    says_line)
