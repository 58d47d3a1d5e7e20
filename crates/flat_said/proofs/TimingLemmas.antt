-- The tables of a flat text, and the Timing of each executive.
use Rattle.std.proofs.Common.{◌≡◌, ℕ, ◌<◌, Bool, true, false, cond, List, [], ◌∷◌, ◌++◌, length, get_or, map, refl, sym, ap, ◌∙◌, append_assoc, append-nil}
use Rattle.std.specs.Prelude.{codes, decimal}
use Rattle.std.specs.List.{AllByRecursion, flat_map, range_with_len}
use Rattle.std.specs.Option.{option_map_or}
use Rattle.std.proofs.lemmas.Option.{slice_get-get_or}
use Rattle.text_bytes.specs.Bytes.{is_word, is_character}
use Rattle.text_bytes.proofs.ListLemmas.{all_from, all_filter}
use Rattle.tester_types.specs.declared.wave.Wave.{Wave}
use Rattle.tester_types.specs.declared.wave.Table.{Table}
use Rattle.stil_lex.specs.Bytes.{double_quote}
use Rattle.packed_code.specs.Program.{Program}
use Rattle.packed_code.specs.Cycles.{exec_of}
use Rattle.flat_parts.specs.Order.{is_in, tables_in, table_order}
use Rattle.flat_parts.specs.FlatText.{text_of, name_of, opening, period_line, wave_line, waveform_lines, table_lines, own_table, timing_lines}
use Rattle.flat_parts.specs.FlatBlocks.{no_table, table_numbered, own_numbers}
use Rattle.flat_said.specs.FlatSaid.{wave_said, table_said, timing_said}
use Rattle.flat_said.proofs.ListLemmas.{flat_same, flat_kept}
use Rattle.flat_said.proofs.SaysLemmas.{Says, says_as, says_then, says_each, says_statement, says_line, heads_nil, heads_text, heads_name_blank, heads_word_blank, IsQuotable, IsPlainWord, plain_word_is}
use Rattle.flat_said.proofs.WordLemmas.{time_is, w_is, t_is}
use Rattle.flat_said.proofs.BlockLemmas.{text_of-cons, text_of-nil, text_of-flat, says_lines, says_line_each}
use Rattle.flat_said.proofs.TableLemmas.{wave_says}

-- ---- words

-- the line that opens a block of a number
pub opening_text : (first space quote front digits brace : List ℕ)
    → (first ++ (space ++ (quote ++ front))) ++ digits ++ (quote ++ (space ++ brace))
    ≡ (first ++ (space ++ ((quote ++ ((front ++ digits) ++ quote)) ++ (space ++ [])))) ++ brace
opening_text first space quote front digits brace = simp (append_assoc, append-nil)

table_word : IsPlainWord (codes "WaveformTable")
unfolding is_word
table_word = plain_word_is (codes "WaveformTable") refl

pub timing_word : IsPlainWord (codes "Timing")
unfolding is_word
timing_word = plain_word_is (codes "Timing") refl

period_word : IsPlainWord (codes "Period")
unfolding is_word
period_word = plain_word_is (codes "Period") refl

waveforms_word : IsPlainWord (codes "Waveforms")
unfolding is_word
waveforms_word = plain_word_is (codes "Waveforms") refl

-- ---- tables

-- a wave that can be said
pub record IsSayableWave (code : Program) (wave : Wave) : Type 0 where
  pub name : IsQuotable double_quote (name_of code wave.signal)
  pub character : is_character wave.character ≡ true

-- a table of such waves
abbrev pub IsSayableTable : Program → Table → Type 0
IsSayableTable code table = AllByRecursion (IsSayableWave code) table.waves

period_text : (first space quote digits unit stop feed rest : List ℕ)
    → ((first ++ (space ++ ((quote ++ ((digits ++ unit) ++ quote)) ++ []))) ++ stop) ++ (feed ++ rest)
    ≡ (((first ++ (space ++ quote)) ++ digits ++ (unit ++ (quote ++ stop))) ++ feed) ++ rest
period_text first space quote digits unit stop feed rest = simp (append_assoc, append-nil)

-- a table
pub table_says : (code : Program) (number : ℕ) → IsSayableTable code (table_numbered code number)
    → Says (table_said code number) (text_of (table_lines code number (table_numbered code number)))
table_says code number sayable =
    let table = table_numbered code number in
    let waves = says_lines (codes "Waveforms {") (map (wave_line code) table.waves) (heads_word_blank waveforms_word heads_nil)
    (says_line_each (wave_said code) (wave_line code) table.waves
    (all_from (IsSayableWave code) _ (λ wave w. wave_says code wave w.name w.character) table.waves sayable)) refl in
    let period = says_statement (heads_word_blank period_word (heads_text (time_is table.period) heads_nil)) in
    let whole =
    period_text (codes "Period") (32 ∷ []) (39 ∷ []) (decimal table.period) (codes "fs") (59 ∷ []) (10 ∷ [])
    (text_of (waveform_lines code table))
    ∙ sym (text_of-cons (period_line table.period) (waveform_lines code table)) in
    says_lines (opening (codes "WaveformTable \"w") number) (period_line table.period ∷ waveform_lines code table)
    (heads_word_blank table_word (heads_name_blank (w_is number) heads_nil))
    (says_as whole (says_then period (says_then says_line waves)))
    (opening_text (codes "WaveformTable") (32 ∷ []) (34 ∷ []) (codes "w") (decimal number) (123 ∷ []))

-- ---- the Timing of an executive

-- whether the executive names the table of a number
abbrev names_it : Program → ℕ → ℕ → Bool
names_it code exec number = is_in (tables_in (exec_of code exec)) (get_or (table_order code) number 0)

own_by : (named : Bool) (lines other : List (List ℕ)) → other ≡ lines → cond named (text_of lines) [] ≡ text_of (cond named other [])
own_by true lines other e = sym (ap text_of e)
own_by false lines other e = sym text_of-nil

-- what is written of a table that is there
own_is : (code : Program) (exec number : ℕ) → get_or (table_order code) number 0 < length code.tables
    → cond (names_it code exec number) (text_of (table_lines code number (table_numbered code number))) []
    ≡ text_of (own_table code exec number)
own_is code exec number there =
    own_by (names_it code exec number) (table_lines code number (table_numbered code number)) _
    (ap (λ table. option_map_or (table_lines code number) table [])
    (slice_get-get_or code.tables (get_or (table_order code) number 0) no_table there))

-- the Timing of an executive
pub timing_says : (code : Program) (exec : ℕ)
    → AllByRecursion (λ number. get_or (table_order code) number 0 < length code.tables) (range_with_len 0 (length (table_order code)))
    → AllByRecursion (λ number. IsSayableTable code (table_numbered code number)) (range_with_len 0 (length (table_order code)))
    → Says (timing_said code exec) (text_of (timing_lines code exec))
timing_says code exec there sayable =
    let numbers = range_with_len 0 (length (table_order code)) in
    let text : ℕ → List ℕ = λ number. text_of (table_lines code number (table_numbered code number)) in
    let tables =
    says_each (table_said code) text (own_numbers code exec)
    (all_from (λ number. IsSayableTable code (table_numbered code number)) (λ number. Says (table_said code number) (text number))
    (table_says code) (own_numbers code exec)
    (all_filter (λ number. IsSayableTable code (table_numbered code number)) (names_it code exec) numbers sayable)) in
    let same : flat_map text (own_numbers code exec) ≡ text_of (flat_map (own_table code exec) numbers) =
    sym (flat_kept text (names_it code exec) numbers)
    ∙ flat_same (λ number. cond (names_it code exec number) (text number) []) (λ number. text_of (own_table code exec number)) numbers
    (all_from (λ number. get_or (table_order code) number 0 < length code.tables) _ (own_is code exec) numbers there)
    ∙ sym (text_of-flat (own_table code exec) numbers) in
    says_lines (opening (codes "Timing \"t") exec) (flat_map (own_table code exec) numbers)
    (heads_word_blank timing_word (heads_name_blank (t_is exec) heads_nil)) (says_as same tables)
    (opening_text (codes "Timing") (32 ∷ []) (34 ∷ []) (codes "t") (decimal exec) (123 ∷ []))
